-- `text::put_unsigned`: the digits, the point and two digits are put.
use Rattle.std.proofs.Common.{◌%◌, refl}
use Rattle.write.proofs.Puts.{room_first, room_last, puts_both}
use Rattle.decimal.specs.Score.{two_digits, unsigned_text}
use Rattle.decimal.proofs.text.put_unsigned.Goals as goal

pub put_two_digits-requires-clause-fact_2 : goal.put_two_digits-requires-clause-fact_2
unfolding unsigned_text
put_two_digits-requires-clause-fact_2 c =
    let front = puts_both (room_first c.requires (two_digits (c.args.hundredths % 100)) refl) c.put_decimal-behind_whole.ensures refl c.put_word-behind_point.ensures in
    room_last c.requires front refl

pub returns : goal.returns
unfolding unsigned_text
returns c = puts_both c.requires (puts_both (room_first c.requires (two_digits (c.args.hundredths % 100)) refl) c.put_decimal-behind_whole.ensures refl c.put_word-behind_point.ensures) refl c.put_two_digits.ensures
