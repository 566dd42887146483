-- A written score reads back as itself, and an accepted text is what the writer would write for it: no number has two texts, and no text two numbers.
use mathlib.Core.Path.{◌≡◌, refl, sym, ap, ap₂, ◌∙◌}
use mathlib.Core.Bool.{Bool, true, false, cond, ◌&&◌, false≢true}
use mathlib.Core.Logic.{◌↔◌}
use mathlib.Core.List.{List, [], ◌∷◌, ◌++◌}
use Prim.Native.Nat.{ℕ, zero, suc, ◌+◌, ◌*◌, ◌-◌, ◌/◌, ◌%◌, ◌^◌, ◌≤◌, ◌<◌}
use native.Mathlib.Omega.{arith}
use lib.ListN.{length}
use lib.IntN.{ℤ, pos, negsuc, nat_abs}
use borrow.Author.Tests.{le-leb, le-ltb}
use Rattle.std.specs.Prelude.{Result, Ok, Err}
use Rattle.std.specs.Result.{is_ok}
use Rattle.answer.specs.Refusal.{refusal_at}
use Rattle.answer.specs.declared.Refusal.{Refusal}
use Rattle.answer.specs.declared.Ground.TheVariants.{ScoreText}
use Rattle.answer.specs.declared.Place.TheVariants.{Nothing}
use Rattle.answer.proofs.Tells.{both_true}
use Rattle.write.specs.Decimal.{bytes, decimal}
use Rattle.table.specs.Rows.{in_range}
use Rattle.table.proofs.Ranges.{range_size}
use Rattle.decimal.specs.Score.{is_digit, all_digits, digits_number, unsigned_number, score_form, signed_number, number_in, is_score, score_read, two_digits, unsigned_text, number_text, beyond}
use Rattle.decimal.specs.Parts.{MadeOf}
use Rattle.decimal.proofs.Digits.{digit_range}
use Rattle.decimal.proofs.Decimals.{digits_all, digits_number_lem, digits_some, digits_few, digits_not_idle, digits_of_number}
use Rattle.decimal.proofs.Parts.{number_is, first_is, behind_is, sign_front, made_form, form_made}
use Rattle.decimal.proofs.Signs.{size_few}
use Rattle.decimal.proofs.Texts.{length_unsigned}

-- ---- bounds

-- A score is no number that the writer refuses.
pub range_within : (z : ℤ) → in_range z ≡ true → beyond z ≡ false
unfolding beyond
range_within (pos n) e = le-ltb 64000000 n (omega (arith, range_size (pos n) e))
range_within (negsuc n) e = rw (le-ltb 63999999 n (omega (arith, range_size (negsuc n) e)))

-- ---- two digits

two_all : (n : ℕ) → n < 100 → all_digits (two_digits n) ≡ true
unfolding two_digits all_digits is_digit
two_all n h = rw (le-leb 48 (48 + n / 10) (omega arith), le-leb (48 + n / 10) 57 (omega arith), le-leb 48 (48 + n % 10) (omega arith), le-leb (48 + n % 10) 57 (omega arith))

two_number : (n : ℕ) → digits_number 0 (two_digits n) ≡ n
unfolding two_digits digits_number
two_number n = omega arith

two_long : (n : ℕ) → length (two_digits n) ≡ 2
unfolding two_digits
two_long n = refl

-- ---- the number of a written text

module _ (n : ℕ) (few : n ≤ 64000000) where
  whole_number : digits_number 0 (decimal (n / 100)) ≡ n / 100
  whole_number = digits_number_lem 20 (n / 100) (omega arith)

  size_back : 100 * digits_number 0 (decimal (n / 100)) + digits_number 0 (two_digits (n % 100)) ≡ n
  size_back = rw (whole_number, two_number (n % 100)) (omega arith)

  signed_back : (minus : Bool) → number_in (cond minus (bytes "-") [] ++ decimal (n / 100) ++ bytes "." ++ two_digits (n % 100)) ≡ signed_number minus n
  unfolding number_in
  signed_back minus =
      let whole = decimal (n / 100) in
      let hundredths = two_digits (n % 100) in
      let one = digits_some 19 (n / 100) in
      let all = digits_all 20 (n / 100) in
      ap₂ signed_number (first_is whole hundredths one all minus)
      (ap unsigned_number (behind_is whole hundredths one all minus) ∙ number_is whole hundredths (two_long (n % 100)) ∙ size_back)

-- The text of a number stands for it.
pub number_back : (z : ℤ) → beyond z ≡ false → number_in (number_text z) ≡ z
unfolding number_text unsigned_text
number_back (pos n) within = signed_back n (size_few (pos n) within) false
number_back (negsuc n) within = signed_back (suc n) (size_few (negsuc n) within) true

-- No two numbers have one text.
pub one_text : (y z : ℤ) → beyond y ≡ false → beyond z ≡ false → number_text y ≡ number_text z → y ≡ z
one_text y z p q e = sym (number_back y p) ∙ ap number_in e ∙ number_back z q

-- ---- a written score is a score text

score_made : (n : ℕ) (minus : Bool) → n ≤ 1000000 → (minus ≡ true → n ≡ 0 → ⊥) → MadeOf minus (decimal (n / 100)) (two_digits (n % 100)) (cond minus (bytes "-") [] ++ decimal (n / 100) ++ bytes "." ++ two_digits (n % 100)) (signed_number minus n)
score_made n minus few not-zero =
    let back = size_back n (omega arith) in
    record {
      spelled = refl;
      one = digits_some 19 (n / 100);
      five = digits_few 20 4 (n / 100) (omega arith);
      whole_digits = digits_all 20 (n / 100);
      two = two_long (n % 100);
      hundredths_digits = two_all (n % 100) (omega arith);
      no_idle_zero = digits_not_idle 20 (n / 100) (omega arith);
      no_minus_before_zero = λ m e. not-zero m (sym back ∙ e);
      number = ap (signed_number minus) (sym back);
    }

pub written_form : (z : ℤ) → in_range z ≡ true → score_form (number_text z) ≡ true
unfolding number_text unsigned_text
written_form (pos n) e = made_form (score_made n false (range_size (pos n) e) (λ m. absurd (false≢true m)))
written_form (negsuc n) e = made_form (score_made (suc n) true (range_size (negsuc n) e) (λ m z. omega arith))

-- A written score reads back as itself.
pub written_read_back : (z : ℤ) → in_range z ≡ true → score_read (number_text z) ≡ Ok z
unfolding score_read is_score
written_read_back z e = rw (written_form z e, number_back z (range_within z e), e)

-- ---- an accepted text is what the writer would write

two_digits_of : (s : List ℕ) → length s ≡ 2 → all_digits s ≡ true → (digits_number 0 s < 100) × (two_digits (digits_number 0 s) ≡ s)
unfolding two_digits digits_number all_digits
two_digits_of [] long all = absurd (omega arith)
two_digits_of (a ∷ []) long all = absurd (omega arith)
two_digits_of (a ∷ b ∷ []) long all =
    let w = both_true (is_digit a) _ all in
    let first = digit_range a w.0 in
    let last = digit_range b (both_true (is_digit b) true w.1).0 in
    let n = 10 * (10 * 0 + (a - 48)) + (b - 48) in
    let e : 48 + n / 10 ≡ a = omega arith in
    let f : 48 + n % 10 ≡ b = omega arith in
    (omega arith, ap₂ (λ (x y : ℕ). x ∷ y ∷ []) e f)
two_digits_of (a ∷ b ∷ c ∷ s) long all = absurd (omega arith)

module _ {minus : Bool} {whole hundredths s : List ℕ} {z : ℤ} (made : MadeOf minus whole hundredths s z) where
  abbrev size : ℕ
  size = 100 * digits_number 0 whole + digits_number 0 hundredths

  unsigned_is : unsigned_text size ≡ whole ++ bytes "." ++ hundredths
  unfolding unsigned_text
  unsigned_is =
      let last = two_digits_of hundredths made.two made.hundredths_digits in
      let front : size / 100 ≡ digits_number 0 whole = omega (arith, last.0) in
      let rest : size % 100 ≡ digits_number 0 hundredths = omega (arith, last.0) in
      ap₂ (λ (l m : List ℕ). l ++ bytes "." ++ m)
      (ap decimal front ∙ digits_of_number whole 20 made.whole_digits made.no_idle_zero made.one (omega (arith, made.five)))
      (ap two_digits rest ∙ last.1)

signed_text_lem : (minus : Bool) (n : ℕ) → (minus ≡ true → n ≡ 0 → ⊥) → number_text (signed_number minus n) ≡ cond minus (bytes "-") [] ++ unsigned_text n
unfolding number_text
signed_text_lem true zero h = absurd (h refl refl)
signed_text_lem true (suc n) h = refl
signed_text_lem false n h = refl

pub made_text : {minus : Bool} {whole hundredths s : List ℕ} {z : ℤ} → MadeOf minus whole hundredths s z → number_text z ≡ s
made_text {minus} {whole} {hundredths} made =
    ap number_text made.number
    ∙ signed_text_lem minus (size made) made.no_minus_before_zero
    ∙ ap (λ (l : List ℕ). cond minus (bytes "-") [] ++ l) (unsigned_is made)
    ∙ sign_front minus whole hundredths
    ∙ sym made.spelled

-- Exactly the texts of the form within the bounds are accepted, with the number that they stand for.
pub read_exactly : (s : List ℕ) (z : ℤ) → (score_read s ≡ Ok z) ↔ ((score_form s ≡ true) × (number_in s ≡ z) × (in_range z ≡ true))
unfolding score_read is_score
read_exactly s z = (λ e. go (score_form s) refl (in_range (number_in s)) refl e, λ h. rw (h.0, h.1, h.2))
  where
    score_in : Result ℤ Refusal → ℤ
    score_in (Ok y) = y
    score_in (Err refusal) = pos 0

    go : (a : Bool) → score_form s ≡ a → (b : Bool) → in_range (number_in s) ≡ b → cond (a && b) (Ok (number_in s)) (Err (refusal_at ScoreText Nothing)) ≡ Ok z → (score_form s ≡ true) × (number_in s ≡ z) × (in_range z ≡ true)
    go true f true r e = let n : number_in s ≡ z = ap score_in e in (f, n, ap in_range (sym n) ∙ r)
    go true f false r e = absurd (false≢true (ap is_ok e))
    go false f b r e = absurd (false≢true (ap is_ok e))

pub accepted_written : (s : List ℕ) (z : ℤ) → score_read s ≡ Ok z → s ≡ number_text z
accepted_written s z e =
    let h = (read_exactly s z).0 e in
    sym (made_text (form_made s h.0)) ∙ ap number_text h.1

-- ---- how long a text is

unsigned_long : (j n : ℕ) → n / 100 < 10 ^ suc j → (4 ≤ length (unsigned_text n)) × (length (unsigned_text n) ≤ j + 4)
unsigned_long j n h = (omega (arith, length_unsigned n, digits_some 19 (n / 100)), omega (arith, length_unsigned n, digits_few 20 j (n / 100) h))

number_long : (j : ℕ) (z : ℤ) → nat_abs z / 100 < 10 ^ suc j → (4 ≤ length (number_text z)) × (length (number_text z) ≤ j + 5)
unfolding number_text
number_long j (pos n) h = let w = unsigned_long j n h in (w.0, omega (arith, w.1))
number_long j (negsuc n) h = let w = unsigned_long j (suc n) h in (omega (arith, w.0), omega (arith, w.1))

-- 4 to 10 bytes hold every text that is written, and 4 to 9 every score.
pub text_length : (z : ℤ) → beyond z ≡ false → (4 ≤ length (number_text z)) × (length (number_text z) ≤ 10)
text_length z within = number_long 5 z (omega (arith, size_few z within))

pub score_length : (z : ℤ) → in_range z ≡ true → (4 ≤ length (number_text z)) × (length (number_text z) ≤ 9)
score_length z e = number_long 4 z (omega (arith, range_size z e))
