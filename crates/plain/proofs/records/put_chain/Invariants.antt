use Rattle.std.proofs.Common.{◌≡◌, take}
use Rattle.std.proofs.lemmas.List.Edits.{sets}
use Rattle.seed.specs.Pairs.{pairs_of}
use Rattle.plain.specs.Plain.{plain_chain}
use Rattle.plain.specs.inner.Writing.{pair_part}
use Rattle.plain.proofs.records.put_chain.Given as goal

-- The records passed are written.
abbrev pub invariant-loop-j : goal.invariant-loop-j
invariant-loop-j l = l.out ≡ sets l.fn.out l.at (pair_part (take l.j (plain_chain l.k (pairs_of l.qs l.ts))))
