-- Score texts read and numbers written, computed from the definitions.
use mathlib.Core.Path.{◌≡◌, refl}
use mathlib.Core.Bool.{true, false}
use mathlib.Core.List.{[], ◌∷◌, ◌++◌, map}
use lib.IntN.{ℤ, pos, negsuc}
use lib.ListN.{replicate}
use Rattle.std.specs.Prelude.{Result, Ok, Err}
use Rattle.answer.specs.Refusal.{refusal_at}
use Rattle.answer.specs.declared.Refusal.{Refusal}
use Rattle.answer.specs.declared.Ground.TheVariants.{ScoreText}
use Rattle.answer.specs.declared.Place.TheVariants.{Nothing}
use Rattle.write.specs.Decimal.{bytes, digits}
use Rattle.table.specs.Rows.{in_range}
use Rattle.decimal.specs.Score.{minus_first, behind_minus, whole_in, point_in, hundredths_in, is_digit, all_digits, idle_zero, unsigned_form, digits_number, unsigned_number, score_form, number_in, is_score, score_read, two_digits, unsigned_text, number_text, beyond}

abbrev read_as : ℤ → Result ℤ Refusal
read_as z = Ok z

pub texts_read :
    map score_read (bytes "0.00" ∷ bytes "-0.50" ∷ bytes "0.01" ∷ bytes "10000.00" ∷ bytes "-10000.00" ∷ [])
    ≡ map read_as (pos 0 ∷ negsuc 49 ∷ pos 1 ∷ pos 1000000 ∷ negsuc 999999 ∷ [])
unfolding score_read is_score score_form unsigned_form number_in unsigned_number digits_number idle_zero all_digits is_digit whole_in point_in hundredths_in minus_first behind_minus in_range
texts_read = refl

-- Another form, or beyond the bounds; the last are an empty text, 300 digits, and 300 digits with a point and two more.
pub texts_refused :
    map score_read
    (bytes "-0.00"
    ∷ bytes "00.10"
    ∷ bytes ".50"
    ∷ bytes "1.5"
    ∷ bytes "1.500"
    ∷ bytes "10000.01"
    ∷ bytes "-10000.01"
    ∷ bytes "99999.99"
    ∷ bytes "640000.00"
    ∷ bytes "+1.00"
    ∷ bytes "1,00"
    ∷ bytes " 1.00"
    ∷ bytes "1.00\n"
    ∷ []
    ∷ replicate 300 49
    ∷ (replicate 300 49 ++ bytes ".00")
    ∷ [])
    ≡ replicate 16 (Err (refusal_at ScoreText Nothing))
unfolding score_read is_score score_form unsigned_form number_in unsigned_number digits_number idle_zero all_digits is_digit whole_in point_in hundredths_in minus_first behind_minus in_range
texts_refused = refl

pub texts_written :
    map number_text (pos 0 ∷ pos 5 ∷ negsuc 49 ∷ pos 432 ∷ pos 1000000 ∷ pos 64000000 ∷ negsuc 63999999 ∷ [])
    ≡ bytes "0.00" ∷ bytes "0.05" ∷ bytes "-0.50" ∷ bytes "4.32" ∷ bytes "10000.00" ∷ bytes "640000.00" ∷ bytes "-640000.00" ∷ []
unfolding number_text unsigned_text two_digits digits
texts_written = refl

-- The largest and the smallest total, and one hundredth beyond each.
pub numbers_beyond : map beyond (pos 64000000 ∷ negsuc 63999999 ∷ pos 64000001 ∷ negsuc 64000000 ∷ []) ≡ false ∷ false ∷ true ∷ true ∷ []
unfolding beyond
numbers_beyond = refl
