-- `text::text_of`: the array has room for every text.
use Rattle.std.proofs.Common.{List, ℕ, ap₂}
use Rattle.write.proofs.Zeros.{zeros_room, zeros_bytes, zeros_length}
use Rattle.decimal.specs.inner.Texts.{signed_text, text_room, text_laid}
use Rattle.decimal.proofs.Texts.{length_signed}
use Rattle.decimal.proofs.text.text_of.Goals as goal

pub put_signed-length-requires : goal.put_signed-length-requires
put_signed-length-requires c = zeros_room text_room (signed_text c.args.minus c.args.hundredths) (length_signed c.args.minus c.args.hundredths)

pub returns : goal.returns
unfolding text_laid
returns c =
    let text = signed_text c.args.minus c.args.hundredths in
    let fits = length_signed c.args.minus c.args.hundredths in
    let put = c.put_signed-length.ensures in
    ap₂ (λ (b : List ℕ) (n : ℕ). record { bytes = b; length = n }) (zeros_bytes text_room text fits put) (zeros_length text_room text fits put)
