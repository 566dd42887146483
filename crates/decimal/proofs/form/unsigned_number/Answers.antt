-- `form::unsigned_number`.
use Rattle.std.proofs.Common.{ℕ, ◌+◌, ◌*◌, ap, ap₂, ◌∙◌, arith}
use Rattle.decimal.specs.Score.{digits_number, unsigned_number}
use Rattle.decimal.proofs.Forms.{form_parts, hundredths_length}
use Rattle.decimal.proofs.form.unsigned_number.Goals as goal

pub digits_number-requires : goal.digits_number-requires
digits_number-requires c =
    let parts = form_parts c.args.unsigned.now c.requires in
    rw c.whole_in.ensures (record { few = parts.few; digits = parts.whole })

pub digits_number-requires-2 : goal.digits_number-requires-2
digits_number-requires-2 c =
    let parts = form_parts c.args.unsigned.now c.requires in
    rw c.hundredths_in.ensures (record { few = omega (arith, hundredths_length c.args.unsigned.now); digits = parts.hundredths })

pub returns : goal.returns
unfolding unsigned_number
returns c = record {
  number = ap₂ (λ (x y : ℕ). 100 * x + y) (c.digits_number.ensures.number ∙ ap (digits_number 0) c.whole_in.ensures) (c.digits_number-2.ensures.number ∙ ap (digits_number 0) c.hundredths_in.ensures);
  small = omega (arith, c.digits_number.ensures.small, c.digits_number-2.ensures.small);
}
