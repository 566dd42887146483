-- `text::put_two_digits`: the one digit is put and then the other.
use Rattle.std.proofs.Common.{refl}
use Rattle.write.proofs.Puts.{puts_both}
use Rattle.decimal.specs.Score.{two_digits}
use Rattle.decimal.proofs.text.put_two_digits.Goals as goal

pub returns : goal.returns
unfolding two_digits
returns c = puts_both c.requires.fact_2 c.put_digit-behind_first.ensures refl c.put_digit.ensures
