-- `decimal::put_total`: the bytes of the text are put.
use Rattle.std.proofs.Common.{sym, false, arith, length-take-le}
use Rattle.write.proofs.Puts.{puts_as}
use Rattle.decimal.specs.Score.{number_text}
use Rattle.decimal.specs.inner.Texts.{signed_text}
use Rattle.decimal.proofs.Texts.{laid_fits, laid_bytes}
use Rattle.decimal.proofs.put_total.Goals as goal

pub shared_ref_as_front-put_word : goal.shared_ref_as_front-put_word
shared_ref_as_front-put_word c = omega (arith, laid_fits (signed_text false c.args.total) c.text_of-text.ensures)

pub slice_bounds-put_word-end : goal.slice_bounds-put_word-end
slice_bounds-put_word-end c = sym (length-take-le c.text_of-text.result.length c.text_of-text.result.bytes (laid_fits (signed_text false c.args.total) c.text_of-text.ensures))

pub returns : goal.returns
unfolding number_text signed_text
returns c = puts_as (laid_bytes (signed_text false c.args.total) c.text_of-text.ensures) c.put_word.ensures
