use Rattle.plain.proofs.Turns.{Pairing}
use Rattle.plain.proofs.parts.put_pairs.Given as goal

-- The pair records of the present seeds passed are written.
abbrev pub invariant-loop-i : goal.invariant-loop-i
invariant-loop-i l = Pairing l.table l.start l.fn.out l.out l.at l.k l.i
