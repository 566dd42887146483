-- What the grounds say of a score text and of a number to be written (document 02, a).
use Rattle.std.specs.Prelude.{◌≡◌, false, ◌⊎◌, List, ℕ, ◌<◌, ℤ, pos, negsuc, length, ◌<ℤ◌}
use Rattle.answer.specs.Answer.{Said}
use Rattle.answer.specs.Grounds.{GivenIf, ◌then◌}
use Rattle.answer.specs.declared.Place.TheVariants.{Nothing}
use Rattle.table.specs.Rows.{in_range}
use Rattle.decimal.specs.Score.{score_form, number_in, number_text}

-- "A score text of any other form or beyond the bounds" is 23.
abbrev pub ReadSays : List ℕ → Said → Type 0
ReadSays s = GivenIf ((score_form s ≡ false) ⊎ (in_range (number_in s) ≡ false)) 23 Nothing

-- A number "beyond that on either side of zero" is 11; an output that is shorter than the text is 22.
abbrev pub WriteSays : ℤ → ℕ → Said → Type 0
WriteSays z room = GivenIf ((z <ℤ negsuc 63999999) ⊎ (pos 64000000 <ℤ z)) 11 Nothing then GivenIf (room < length (number_text z)) 22 Nothing
