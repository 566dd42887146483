-- `text::put_signed`: the minus, if there is one, and the rest are put.
use Rattle.std.proofs.Common.{refl}
use Rattle.write.proofs.Puts.{room_last, puts_both}
use Rattle.decimal.specs.inner.Texts.{signed_text}
use Rattle.decimal.proofs.text.put_signed.Goals as goal

pub put_unsigned-requires : goal.put_unsigned-requires
unfolding signed_text
put_unsigned-requires c = room_last (rw c.if-minus.true at c.requires) c.put_word-behind_minus.ensures refl

pub put_unsigned-requires-else-minus : goal.put_unsigned-requires-else-minus
unfolding signed_text
put_unsigned-requires-else-minus c = rw c.if-minus.false at c.requires

pub returns-then-minus : goal.returns-then-minus
unfolding signed_text
returns-then-minus c = rw c.if-minus.true (puts_both (rw c.if-minus.true at c.requires) c.put_word-behind_minus.ensures refl c.put_unsigned.ensures)

pub returns-else-minus : goal.returns-else-minus
unfolding signed_text
returns-else-minus c = rw c.if-minus.false c.put_unsigned-else-minus.ensures
