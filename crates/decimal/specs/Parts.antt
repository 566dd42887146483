-- The form of a score text in its parts (document 02, a), without counting from the end of a text.
use Rattle.std.specs.Prelude.{◌≡◌, Bool, true, false, cond, List, [], ◌++◌, ℕ, ◌+◌, ◌*◌, ◌≤◌, length, ℤ}
use Rattle.write.specs.Decimal.{bytes}
use Rattle.decimal.specs.Score.{all_digits, idle_zero, digits_number, signed_number}

-- "An optional minus (a hyphen), one to five digits, a point, two digits, with no idle leading zero and no minus before 0.00": so a text is made of its parts, and stands for this number.
pub record MadeOf (minus : Bool) (whole hundredths text : List ℕ) (z : ℤ) : Type 0 where
  pub spelled : text ≡ cond minus (bytes "-") [] ++ whole ++ bytes "." ++ hundredths
  pub one : 1 ≤ length whole
  pub five : length whole ≤ 5
  pub whole_digits : all_digits whole ≡ true
  pub two : length hundredths ≡ 2
  pub hundredths_digits : all_digits hundredths ≡ true
  pub no_idle_zero : idle_zero whole ≡ false
  pub no_minus_before_zero : minus ≡ true → 100 * digits_number 0 whole + digits_number 0 hundredths ≡ 0 → ⊥
  pub number : z ≡ signed_number minus (100 * digits_number 0 whole + digits_number 0 hundredths)
