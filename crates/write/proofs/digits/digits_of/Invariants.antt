-- `write::digits::digits_of`: the digits of the rest are still to be put before those that stand.
use Rattle.write.proofs.Decimals.{Spelled}
use Rattle.write.proofs.digits.digits_of.Given as goal

abbrev pub invariant-loop-rest : goal.invariant-loop-rest
invariant-loop-rest l = Spelled l.n l.places l.rest l.first

abbrev pub decreases-loop-rest : goal.decreases-loop-rest
decreases-loop-rest l = l.first
