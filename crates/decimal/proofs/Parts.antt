-- A text in its parts, and its parts by their places.
use mathlib.Core.Path.{◌≡◌, refl, sym, ap, ap₂, subst, ◌∙◌}
use mathlib.Core.Logic.{◌↔◌}
use mathlib.Core.Bool.{Bool, true, false, cond, not, ◌&&◌, false≢true}
use mathlib.Core.List.{List, [], ◌∷◌, ◌++◌}
use Prim.Native.Nat.{ℕ, suc, ◌+◌, ◌-◌, ◌*◌, ◌≤◌}
use native.Mathlib.Omega.{arith}
use lib.ListN.{length, take, drop, get_or, length-append}
use lib.Seq.{take_at, drop_at, get_or_at, split_at, append_snoc}
use lib.Dec.{eqb}
use lib.IntN.{ℤ}
use borrow.Author.Tests.{le-leb, eq-eqb, ne_eqb, eqb-true}
use Rattle.answer.proofs.Tells.{both_true}
use Rattle.write.specs.Decimal.{bytes}
use Rattle.decimal.specs.Score.{minus_first, behind_minus, whole_in, point_in, hundredths_in, is_digit, all_digits, idle_zero, unsigned_form, digits_number, unsigned_number, score_form, signed_number, number_in}
use Rattle.decimal.specs.Parts.{MadeOf}
use Rattle.decimal.proofs.Digits.{digit_range}
use Rattle.decimal.proofs.Forms.{behind_none, Parts, whole_length, hundredths_length, form_parts}

-- ---- from the parts to the text

-- Digits, a point and two digits, by their places.
module _ (whole hundredths : List ℕ) (two : length hundredths ≡ 2) where
  abbrev text : List ℕ
  text = whole ++ bytes "." ++ hundredths

  long : length text ≡ length whole + 3
  long = omega (arith, length-append (whole ++ bytes ".") hundredths, length-append whole (bytes "."))

  split : text ≡ whole ++ 46 ∷ hundredths
  split = append_snoc whole 46 hundredths

  whole_is : whole_in text ≡ whole
  unfolding whole_in
  whole_is = ap (take (length text - 3)) split ∙ take_at whole (46 ∷ hundredths) (length text - 3) (omega (arith, long))

  point_is : point_in text ≡ 46
  unfolding point_in
  point_is = ap (λ (l : List ℕ). get_or l (length text - 3) 0) split ∙ get_or_at whole 46 hundredths 0 (length text - 3) (omega (arith, long))

  hundredths_is : hundredths_in text ≡ hundredths
  unfolding hundredths_in
  hundredths_is = drop_at (whole ++ bytes ".") hundredths (length text - 2) (omega (arith, long, length-append whole (bytes ".")))

  pub number_is : unsigned_number text ≡ 100 * digits_number 0 whole + digits_number 0 hundredths
  unfolding unsigned_number
  number_is = rw (whole_is, hundredths_is)

  pub form_is : 1 ≤ length whole → length whole ≤ 5 → all_digits whole ≡ true → all_digits hundredths ≡ true → idle_zero whole ≡ false → unsigned_form text ≡ true
  unfolding unsigned_form
  form_is one five all both idle = rw (whole_is, point_is, hundredths_is, le-leb 1 (length whole) one, le-leb (length whole) 5 five, all, both, idle)

-- A text that begins with a digit has no minus.
no_minus : (whole rest : List ℕ) → 1 ≤ length whole → all_digits whole ≡ true → minus_first (whole ++ rest) ≡ false
unfolding minus_first all_digits
no_minus [] rest one all = absurd (omega arith)
no_minus (b ∷ s) rest one all =
    let range = digit_range b (both_true (is_digit b) (all_digits s) all).0 in
    ne_eqb b 45 (λ e. omega arith)

-- What stands behind a minus.
behind_hyphen : (s : List ℕ) → behind_minus (45 ∷ s) ≡ s
unfolding behind_minus minus_first
behind_hyphen s = refl

minus_not_zero : (minus : Bool) (n : ℕ) → (minus ≡ true → n ≡ 0 → ⊥) → not (minus && eqb n 0) ≡ true
minus_not_zero true n h = rw (ne_eqb n 0 (h refl))
minus_not_zero false n h = refl

-- The parts of a text and its sign, as its form reads them.
module _ (whole hundredths : List ℕ) (one : 1 ≤ length whole) (all : all_digits whole ≡ true) where
  abbrev unsigned : List ℕ
  unsigned = whole ++ bytes "." ++ hundredths

  abbrev signed : Bool → List ℕ
  signed minus = cond minus (bytes "-") [] ++ whole ++ bytes "." ++ hundredths

  pub first_is : (minus : Bool) → minus_first (signed minus) ≡ minus
  unfolding minus_first
  first_is true = refl
  first_is false = ap minus_first (append_snoc whole 46 hundredths) ∙ no_minus whole (46 ∷ hundredths) one all

  pub behind_is : (minus : Bool) → behind_minus (signed minus) ≡ unsigned
  behind_is true = behind_hyphen unsigned
  behind_is false = sym (behind_none unsigned (first_is false))

module _ {minus : Bool} {whole hundredths s : List ℕ} {z : ℤ} (made : MadeOf minus whole hundredths s z) where
  first : minus_first s ≡ minus
  first = ap minus_first made.spelled ∙ first_is whole hundredths made.one made.whole_digits minus

  behind : behind_minus s ≡ whole ++ bytes "." ++ hundredths
  behind = ap behind_minus made.spelled ∙ behind_is whole hundredths made.one made.whole_digits minus

  size : unsigned_number (behind_minus s) ≡ 100 * digits_number 0 whole + digits_number 0 hundredths
  size = ap unsigned_number behind ∙ number_is whole hundredths made.two

  pub made_number : number_in s ≡ z
  unfolding number_in
  made_number = ap₂ signed_number first size ∙ sym made.number

  pub made_form : score_form s ≡ true
  unfolding score_form
  made_form =
      rw (first, size, behind, form_is whole hundredths made.two made.one made.five made.whole_digits made.hundredths_digits made.no_idle_zero)
      (minus_not_zero minus (100 * digits_number 0 whole + digits_number 0 hundredths) made.no_minus_before_zero)

-- ---- from the text to its parts

module _ (u : List ℕ) (form : unsigned_form u ≡ true) where
  parts : Parts u
  parts = form_parts u form

  some : 4 ≤ length u
  some = omega (arith, parts.some, whole_length u)

  pub unsigned_made : u ≡ whole_in u ++ bytes "." ++ hundredths_in u
  unfolding whole_in point_in hundredths_in
  unsigned_made =
      let e : suc (length u - 3) ≡ length u - 2 = omega (arith, some) in
      split_at u (length u - 3) 0 (omega (arith, some))
      ∙ ap₂ (λ (b n : ℕ). take (length u - 3) u ++ b ∷ drop n u) parts.point e
      ∙ sym (append_snoc (take (length u - 3) u) 46 (drop (length u - 2) u))

  two_behind : length (hundredths_in u) ≡ 2
  two_behind = omega (arith, hundredths_length u, some)

with_sign : (s : List ℕ) (minus : Bool) → minus_first s ≡ minus → s ≡ cond minus (bytes "-") [] ++ behind_minus s
unfolding minus_first behind_minus
with_sign [] true e = absurd (false≢true e)
with_sign [] false e = refl
with_sign (b ∷ s) true e = rw e (ap (λ (x : ℕ). x ∷ s) (eqb-true b 45 e))
with_sign (b ∷ s) false e = rw e

pub sign_front : (minus : Bool) (whole hundredths : List ℕ) → cond minus (bytes "-") [] ++ (whole ++ bytes "." ++ hundredths) ≡ cond minus (bytes "-") [] ++ whole ++ bytes "." ++ hundredths
sign_front true whole hundredths = refl
sign_front false whole hundredths = refl

pub form_made : (s : List ℕ) → score_form s ≡ true → MadeOf (minus_first s) (whole_in (behind_minus s)) (hundredths_in (behind_minus s)) s (number_in s)
unfolding score_form number_in unsigned_number
form_made s e =
    let minus = minus_first s in
    let u = behind_minus s in
    let w = both_true (unsigned_form u) _ e in
    let p = parts u w.0 in
    record {
      spelled = with_sign s minus refl ∙ ap (λ (l : List ℕ). cond minus (bytes "-") [] ++ l) (unsigned_made u w.0) ∙ sign_front minus (whole_in u) (hundredths_in u);
      one = p.some;
      five = p.few;
      whole_digits = p.whole;
      two = two_behind u w.0;
      hundredths_digits = p.hundredths;
      no_idle_zero = p.not_idle;
      no_minus_before_zero = λ m n. false≢true (sym (both minus _ m n) ∙ w.1);
      number = refl;
    }
  where
    both : (minus : Bool) (n : ℕ) → minus ≡ true → n ≡ 0 → not (minus && eqb n 0) ≡ false
    both minus n m z = rw (m, eq-eqb n 0 z)

-- Exactly the texts that are so made are score texts, and they stand for that number.
pub made_exactly : (s : List ℕ) (z : ℤ) → ((score_form s ≡ true) × (number_in s ≡ z)) ↔ ((minus : Bool) × (whole : List ℕ) × (hundredths : List ℕ) × MadeOf minus whole hundredths s z)
made_exactly s z = (
  λ h. (minus_first s, whole_in (behind_minus s), hundredths_in (behind_minus s), subst (MadeOf (minus_first s) (whole_in (behind_minus s)) (hundredths_in (behind_minus s)) s) h.1 (form_made s h.0)),
  λ m. (made_form m.3, made_number m.3),
)
