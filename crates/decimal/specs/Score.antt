-- Scores with two decimals, as lists of bytes: "an optional minus (a hyphen), one to five digits, a point, two digits, with no
-- idle leading zero and no minus before 0.00". A number counts hundredths.
use Rattle.std.specs.Prelude.{◌≡◌, Bool, true, false, cond, not, ◌&&◌, ◌||◌, List, [], ◌∷◌, ◌++◌, ℕ, suc, ◌+◌, ◌-◌, ◌*◌, ◌/◌, ◌%◌, length, take, drop, get_or, eqb, leb, ℤ, pos, negsuc, neg_ℤ, Result, Ok, Err}
use Rattle.std.specs.Int.Signed.{lt_z}
use Rattle.answer.specs.Refusal.{refusal_at}
use Rattle.answer.specs.declared.Refusal.{Refusal}
use Rattle.answer.specs.declared.Ground.TheVariants.{ScoreRange, ScoreText}
use Rattle.answer.specs.declared.Place.TheVariants.{Nothing}
use Rattle.write.specs.Decimal.{bytes, decimal}
use Rattle.write.specs.Wrote.{written_of, output_of}
use Rattle.table.specs.Rows.{in_range}

-- "An optional minus (a hyphen)": whether it stands first, and the text behind it.
unfoldable pub minus_first : List ℕ → Bool
minus_first [] = false
minus_first (b ∷ s) = eqb b 45

unfoldable pub behind_minus : List ℕ → List ℕ
behind_minus s = cond (minus_first s) (drop 1 s) s

-- "One to five digits, a point, two digits": the last two bytes, the one before them, and what stands before that.
unfoldable pub whole_in : List ℕ → List ℕ
whole_in s = take (length s - 3) s

unfoldable pub point_in : List ℕ → ℕ
point_in s = get_or s (length s - 3) 0

unfoldable pub hundredths_in : List ℕ → List ℕ
hundredths_in s = drop (length s - 2) s

-- A digit is a byte from `0`, which is 48, to `9`.
unfoldable pub is_digit : ℕ → Bool
is_digit b = leb 48 b && leb b 57

unfoldable pub all_digits : List ℕ → Bool
all_digits [] = true
all_digits (b ∷ s) = is_digit b && all_digits s

-- An "idle leading zero": a zero before another digit.
unfoldable pub idle_zero : List ℕ → Bool
idle_zero [] = false
idle_zero (b ∷ s) = eqb b 48 && leb 1 (length s)

-- The form without the minus.
unfoldable pub unsigned_form : List ℕ → Bool
unsigned_form s =
    leb 1 (length (whole_in s))
    && leb (length (whole_in s)) 5
    && all_digits (whole_in s)
    && eqb (point_in s) 46
    && all_digits (hundredths_in s)
    && not (idle_zero (whole_in s))

-- The number that digits stand for, behind others that stand for n.
unfoldable pub digits_number : ℕ → List ℕ → ℕ
digits_number n [] = n
digits_number n (b ∷ s) = digits_number (10 * n + (b - 48)) s

-- The number of hundredths without the minus.
unfoldable pub unsigned_number : List ℕ → ℕ
unsigned_number s = 100 * digits_number 0 (whole_in s) + digits_number 0 (hundredths_in s)

-- What a score text is: the form, with "no minus before 0.00".
unfoldable pub score_form : List ℕ → Bool
score_form s = unsigned_form (behind_minus s) && not (minus_first s && eqb (unsigned_number (behind_minus s)) 0)

-- Which number it stands for.
abbrev pub signed_number : Bool → ℕ → ℤ
signed_number true n = neg_ℤ (pos n)
signed_number false n = pos n

unfoldable pub number_in : List ℕ → ℤ
number_in s = signed_number (minus_first s) (unsigned_number (behind_minus s))

-- Reading refuses "a score text of any other form or beyond the bounds", which are those of a score.
unfoldable pub is_score : List ℕ → Bool
is_score s = score_form s && in_range (number_in s)

-- What reading a score text answers: its score, or ground 23, which has no place.
unfoldable pub score_read : List ℕ → Result ℤ Refusal
score_read s = cond (is_score s) (Ok (number_in s)) (Err (refusal_at ScoreText Nothing))

-- A number below 100 in two digits.
unfoldable pub two_digits : ℕ → List ℕ
two_digits n = (48 + n / 10) ∷ (48 + n % 10) ∷ []

-- A number as a text: a minus below zero, the digits before the point with no idle zero, the point, and two digits.
unfoldable pub unsigned_text : ℕ → List ℕ
unsigned_text n = decimal (n / 100) ++ bytes "." ++ two_digits (n % 100)

unfoldable pub number_text : ℤ → List ℕ
number_text (pos n) = unsigned_text n
number_text (negsuc n) = bytes "-" ++ unsigned_text (suc n)

-- "The writer also takes totals, up to 640000.00", and refuses "a number beyond that on either side of zero".
unfoldable pub beyond : ℤ → Bool
beyond z = lt_z z (negsuc 63999999) || lt_z (pos 64000000) z

-- What writing a number promises, of its result and of the output before and after: 11, then 22, both without a place, or the text's length; nothing is touched beside a refusal, and no byte beyond the text.
pub record WritesNumber (z : ℤ) (before after : List ℕ) (r : Result ℕ Refusal) : Type 0 where
  pub answers : r ≡ cond (beyond z) (Err (refusal_at ScoreRange Nothing)) (written_of (number_text z) (length before))
  pub leaves : after ≡ cond (beyond z) before (output_of (number_text z) before)
