use Rattle.plain.proofs.Turns.{Seeding}
use Rattle.plain.proofs.parts.put_seeds.Given as goal

-- The seed records of the present seeds passed are written.
abbrev pub invariant-loop-i : goal.invariant-loop-i
invariant-loop-i l = Seeding l.table l.fn.out l.out l.at l.k l.i
