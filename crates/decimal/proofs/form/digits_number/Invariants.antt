-- `form::digits_number`: the digits passed stand for the number so far.
use Rattle.decimal.proofs.Digits.{Passed}
use Rattle.decimal.proofs.form.digits_number.Given as goal

abbrev pub invariant-loop-byte : goal.invariant-loop-byte
invariant-loop-byte l = Passed l.s l.n l.byte-index
