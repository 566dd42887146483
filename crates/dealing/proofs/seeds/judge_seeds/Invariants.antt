use Rattle.dealing.proofs.Passing.{Passed}
use Rattle.dealing.proofs.seeds.judge_seeds.Given as goal

-- The seeds passed are accepted.
abbrev pub invariant-loop-i : goal.invariant-loop-i
invariant-loop-i l = Passed l.fn.q l.fn.t l.table l.i
