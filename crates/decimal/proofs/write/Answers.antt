-- `decimal::write`: 11 is asked before the text is made, and 22 before it is put.
use Rattle.std.proofs.Common.{◌≡◌, Bool, ℕ, ℤ, pos, nat_abs, sym, ap, ap₂, ◌∙◌, arith, length-take-le, w64, to_z, of_z, FitsSigned}
use lib.Signed.{lt_z}
use mir.Facts.{to_z-of_z}
use Rattle.write.proofs.Puts.{puts_as}
use Rattle.decimal.specs.Score.{number_text, beyond}
use Rattle.decimal.specs.inner.Texts.{signed_text, text_laid}
use Rattle.decimal.specs.declared.text.NumberText.{NumberText}
use Rattle.decimal.proofs.Texts.{laid_length, laid_fits, laid_bytes, number_text_lem}
use Rattle.decimal.proofs.Writings.{writes_short, writes_all}
use Rattle.decimal.proofs.write.Goals as goal

-- Whether the number is beyond, and the text that is made of it.
module _ {z : ℤ} (fits : FitsSigned w64 z) where
  within : {b to : Bool} → b ≡ beyond (to_z w64 (of_z w64 z)) → b ≡ to → beyond z ≡ to
  within e f = sym (e ∙ ap beyond (to_z-of_z fits)) ∙ f

  made : {n : ℕ} {laid : NumberText} → n ≡ nat_abs (to_z w64 (of_z w64 z)) → laid ≡ text_laid (signed_text (lt_z (to_z w64 (of_z w64 z)) (pos 0)) n) → laid ≡ text_laid (number_text z)
  made e f = f ∙ ap₂ (λ (b : Bool) (n : ℕ). text_laid (signed_text b n)) (ap (λ (x : ℤ). lt_z x (pos 0)) (to_z-of_z fits)) (e ∙ ap nat_abs (to_z-of_z fits)) ∙ ap text_laid (number_text_lem z)

pub returns-then-out-text : goal.returns-then-out-text
returns-then-out-text c =
    let text = made c.ranges.number c.unsigned_abs.ensures.value c.text_of-text.ensures in
    rw c.at-then-out-text.ensures (writes_short c.args.number c.args.out.now (within c.ranges.number c.is_beyond.ensures c.if-is_beyond.false) (omega (arith, laid_length (number_text c.args.number) text, c.if-out-text.true)))

pub shared_ref_as_front-put_word : goal.shared_ref_as_front-put_word
shared_ref_as_front-put_word c = omega (arith, laid_fits (number_text _) (made c.ranges.number c.unsigned_abs.ensures.value c.text_of-text.ensures))

pub slice_bounds-put_word-end : goal.slice_bounds-put_word-end
slice_bounds-put_word-end c = sym (length-take-le c.text_of-text.result.length c.text_of-text.result.bytes (laid_fits (number_text _) (made c.ranges.number c.unsigned_abs.ensures.value c.text_of-text.ensures)))

pub returns : goal.returns
returns c =
    let bytes = number_text c.args.number in
    let text = made c.ranges.number c.unsigned_abs.ensures.value c.text_of-text.ensures in
    writes_all c.args.number c.args.out.now (within c.ranges.number c.is_beyond.ensures c.if-is_beyond.false) (omega (arith, laid_length bytes text, c.if-out-text.false)) (laid_length bytes text) (puts_as (laid_bytes bytes text) c.put_word.ensures)
