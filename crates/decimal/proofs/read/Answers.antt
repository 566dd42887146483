-- `decimal::read`: one test after the other, in the order of the form.
use Rattle.std.proofs.Common.{◌≡◌, Bool, ◌&&◌, List, ℕ, ℤ, ◌<◌, eqb, sym, ap, ap₂, ◌∙◌, w32, to_z, of_z}
use mir.Facts.{to_z-of_z}
use Rattle.std.specs.Prelude.{Ok, Err}
use Rattle.table.specs.Rows.{in_range}
use Rattle.decimal.specs.Score.{minus_first, behind_minus, unsigned_form, unsigned_number, signed_number, number_in}
use Rattle.decimal.proofs.Readings.{score_other, score_minus, score_out, score_in}
use Rattle.decimal.proofs.Signs.{signed_fits}
use Rattle.decimal.proofs.read.Goals as goal

-- What the parts of a text say of it: whether it is in form, whether it has a minus before zero, and which number it is.
module _ (text : List ℕ) {unsigned : List ℕ} (behind : unsigned ≡ behind_minus text) where
  form_is : {b to : Bool} → b ≡ unsigned_form unsigned → b ≡ to → unsigned_form (behind_minus text) ≡ to
  form_is e f = ap unsigned_form (sym behind) ∙ sym e ∙ f

  module _ {minus : Bool} {size : ℕ} (first : minus ≡ minus_first text) (sized : size ≡ unsigned_number unsigned) where
    size_is : size ≡ unsigned_number (behind_minus text)
    size_is = sized ∙ ap unsigned_number behind

    minus_is : {b to : Bool} → b ≡ (minus && eqb size 0) → b ≡ to → (minus_first text && eqb (unsigned_number (behind_minus text)) 0) ≡ to
    minus_is e f = sym (e ∙ ap₂ (λ (x : Bool) (n : ℕ). x && eqb n 0) first size_is) ∙ f

    -- The score as the machine holds it.
    number_is : {z : ℤ} → size < 20000000 → z ≡ signed_number minus size → to_z w32 (of_z w32 z) ≡ number_in text
    unfolding number_in
    number_is small e = to_z-of_z {w = w32} (rw e (signed_fits minus size small)) ∙ e ∙ ap₂ signed_number first size_is

pub returns-then-not-unsigned_form : goal.returns-then-not-unsigned_form
returns-then-not-unsigned_form c = ap Err c.at.ensures ∙ score_other c.args.text.now (form_is _ c.behind_minus-unsigned.ensures c.unsigned_form.ensures c.if-not-unsigned_form.true)

pub returns-then-minus_before_zero : goal.returns-then-minus_before_zero
returns-then-minus_before_zero c =
    let behind = c.behind_minus-unsigned.ensures in
    ap Err c.at-then-minus_before_zero.ensures
    ∙ score_minus c.args.text.now (form_is _ behind c.unsigned_form.ensures c.if-not-unsigned_form.false)
    (minus_is _ behind c.minus_first-minus.ensures c.unsigned_number-hundredths.ensures.number c.minus_before_zero.ensures c.if-minus_before_zero.true)

pub returns-then-not-in_range : goal.returns-then-not-in_range
returns-then-not-in_range c =
    let behind = c.behind_minus-unsigned.ensures in
    let size = c.unsigned_number-hundredths.ensures in
    ap Err c.at-then-not-in_range.ensures
    ∙ score_out c.args.text.now (form_is _ behind c.unsigned_form.ensures c.if-not-unsigned_form.false)
    (minus_is _ behind c.minus_first-minus.ensures size.number c.minus_before_zero.ensures c.if-minus_before_zero.false)
    (ap in_range (sym (number_is _ behind c.minus_first-minus.ensures size.number size.small c.signed-score.ensures)) ∙ sym c.in_range.ensures ∙ c.if-not-in_range.true)

pub returns : goal.returns
returns c =
    let behind = c.behind_minus-unsigned.ensures in
    let size = c.unsigned_number-hundredths.ensures in
    let number = number_is _ behind c.minus_first-minus.ensures size.number size.small c.signed-score.ensures in
    ap Ok number
    ∙ score_in c.args.text.now (form_is _ behind c.unsigned_form.ensures c.if-not-unsigned_form.false)
    (minus_is _ behind c.minus_first-minus.ensures size.number c.minus_before_zero.ensures c.if-minus_before_zero.false)
    (ap in_range (sym number) ∙ sym c.in_range.ensures ∙ c.if-not-in_range.false)
