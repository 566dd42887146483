-- `form::digits_number`: each digit passed is one more of the number.
use Rattle.std.proofs.Common.{sym, ◌∙◌, arith, add-one}
use Rattle.decimal.proofs.Digits.{number_none, passed_digit, passed_more}
use Rattle.decimal.proofs.form.digits_number.Goals as goal

pub overflow_sub-n : goal.overflow_sub-n
overflow_sub-n c = (passed_digit c.args.s.now c.requires.few c.loop-byte.invariant c.loop-byte-test.true).0

pub loop-byte-preserved : goal.loop-byte-preserved
loop-byte-preserved c = rw add-one (passed_more c.args.s.now c.requires.few c.loop-byte.invariant c.loop-byte-test.true)

pub returns-clause-number : goal.returns-clause-number
returns-clause-number c = sym (number_none c.args.s.now c.loop-byte.byte-index c.loop-byte.n (omega (arith, c.loop-byte.invariant.within))) ∙ c.loop-byte.invariant.so_far
