-- Digits and the number that they stand for: a number has one row of digits without an idle zero, and such a row stands for one number.
use mathlib.Core.Path.{◌≡◌, refl, sym, ap, ap₂, ◌∙◌}
use mathlib.Core.Bool.{true, false}
use mathlib.Core.Logic.{⊎_elim}
use mathlib.Core.List.{List, [], ◌∷◌, ◌++◌}
use Prim.Native.Nat.{ℕ, zero, suc, ◌+◌, ◌-◌, ◌*◌, ◌/◌, ◌%◌, ◌^◌, ◌≤◌, ◌<◌}
use native.Mathlib.Nat.{div-lt_iff_lt-mul, pow-suc}
use native.Mathlib.Omega.{arith}
use lib.ListN.{length, take, get_or, length-append, get_or-append}
use lib.Seq.{take-suc, take-length}
use borrow.Author.Tests.{le-leb, ne_eqb, eqb-false}
use Rattle.answer.proofs.Tells.{both_true}
use Rattle.tree.proofs.Leaves.{lt_or_le}
use Rattle.write.specs.Decimal.{digits}
use Rattle.write.proofs.Decimals.{digit, tenth}
use Rattle.decimal.specs.Score.{is_digit, all_digits, idle_zero, digits_number}
use Rattle.decimal.proofs.Digits.{digit_range}
use Rattle.decimal.proofs.Forms.{idle_short, idle_long}

-- One digit more at the end.
number_last : (m : ℕ) (s : List ℕ) (b : ℕ) → digits_number m (s ++ b ∷ []) ≡ 10 * digits_number m s + (b - 48)
unfolding digits_number
number_last m [] b = refl
number_last m (a ∷ s) b = number_last (10 * m + (a - 48)) s b

all_last : (s : List ℕ) (b : ℕ) → all_digits s ≡ true → is_digit b ≡ true → all_digits (s ++ b ∷ []) ≡ true
unfolding all_digits
all_last [] b e f = rw f
all_last (a ∷ s) b e f = let w = both_true (is_digit a) (all_digits s) e in rw w.0 (all_last s b w.1 f)

is_digit_lem : (n : ℕ) → n < 10 → is_digit (48 + n) ≡ true
unfolding is_digit
is_digit_lem n h = rw (le-leb 48 (48 + n) (omega arith), le-leb (48 + n) 57 (omega arith))

-- A tenth is below a power of ten less.
tenth_below : (k n : ℕ) → n < 10 ^ suc k → n / 10 < 10 ^ k
tenth_below k n h = (div-lt_iff_lt-mul {k = 10} {x = n} {y = 10 ^ k} (omega arith)).1 (rw pow-suc at h)

-- ---- a number's digits

pub digits_all : (k n : ℕ) → all_digits (digits k n) ≡ true
unfolding digits all_digits
digits_all zero n = refl
digits_all (suc k) n =
    ⊎_elim (λ (h : n < 10). rw (digit k n h, is_digit_lem n h))
    (λ (h : 10 ≤ n). rw (tenth k n h) (all_last (digits k (n / 10)) (48 + n % 10) (digits_all k (n / 10)) (is_digit_lem (n % 10) (omega arith))))
    (lt_or_le n 10)

pub digits_number_lem : (k n : ℕ) → n < 10 ^ k → digits_number 0 (digits k n) ≡ n
unfolding digits digits_number
digits_number_lem zero n small = omega arith
digits_number_lem (suc k) n small =
    ⊎_elim (λ (h : n < 10). rw (digit k n h) (omega arith))
    (λ (h : 10 ≤ n). rw (tenth k n h, number_last 0 (digits k (n / 10)) (48 + n % 10), digits_number_lem k (n / 10) (tenth_below k n small)) (omega arith))
    (lt_or_le n 10)

pub digits_some : (k n : ℕ) → 1 ≤ length (digits (suc k) n)
digits_some k n =
    ⊎_elim (λ (h : n < 10). rw (digit k n h) (omega arith))
    (λ (h : 10 ≤ n). rw (tenth k n h, length-append) (omega arith))
    (lt_or_le n 10)

pub digits_few : (k j n : ℕ) → n < 10 ^ suc j → length (digits k n) ≤ suc j
unfolding digits
digits_few zero j n small = omega arith
digits_few (suc k) zero n small = rw (digit k n (omega arith)) (omega arith)
digits_few (suc k) (suc j) n small =
    ⊎_elim (λ (h : n < 10). rw (digit k n h) (omega arith))
    (λ (h : 10 ≤ n). rw (tenth k n h, length-append) (omega (arith, digits_few k j (n / 10) (tenth_below (suc j) n small))))
    (lt_or_le n 10)

-- The first digit of a number above 0 is no zero.
first_digit : (k n : ℕ) → 1 ≤ n → n < 10 ^ k → 49 ≤ get_or (digits k n) 0 0
first_digit zero n some small = absurd (omega arith)
first_digit (suc zero) n some small = rw (digit zero n (omega arith)) (omega arith)
first_digit (suc (suc k)) n some small =
    ⊎_elim (λ (h : n < 10). rw (digit (suc k) n h) (omega arith))
    (λ (h : 10 ≤ n). rw (tenth (suc k) n h, get_or-append (digits (suc k) (n / 10)) ((48 + n % 10) ∷ []) 0 0 (digits_some k (n / 10))) (first_digit (suc k) (n / 10) (omega arith) (tenth_below (suc k) n small)))
    (lt_or_le n 10)

pub digits_not_idle : (k n : ℕ) → n < 10 ^ k → idle_zero (digits k n) ≡ false
unfolding digits idle_zero
digits_not_idle zero n small = refl
digits_not_idle (suc k) zero small = refl
digits_not_idle (suc k) (suc n) small =
    ⊎_elim (λ (h : length (digits (suc k) (suc n)) < 2). sym (idle_short (digits (suc k) (suc n)) h))
    (λ (h : 2 ≤ length (digits (suc k) (suc n))). sym (idle_long (digits (suc k) (suc n)) h) ∙ ne_eqb (get_or (digits (suc k) (suc n)) 0 0) 48 (λ e. omega (arith, first_digit (suc k) (suc n) (omega arith) small)))
    (lt_or_le (length (digits (suc k) (suc n))) 2)

-- ---- the digits of a row's number

digit_at : (s : List ℕ) → all_digits s ≡ true → (i : ℕ) → i < length s → (48 ≤ get_or s i 0) × (get_or s i 0 ≤ 57)
unfolding all_digits
digit_at [] e i h = absurd (omega arith)
digit_at (b ∷ s) e zero h = digit_range b (both_true (is_digit b) (all_digits s) e).0
digit_at (b ∷ s) e (suc i) h = digit_at s (both_true (is_digit b) (all_digits s) e).1 i (omega arith)

module _ (s : List ℕ) (all : all_digits s ≡ true) where
  -- A digit more is ten times the number before it and that digit.
  number_suc : (i : ℕ) → i < length s → digits_number 0 (take (suc i) s) ≡ 10 * digits_number 0 (take i s) + (get_or s i 0 - 48)
  number_suc i h = ap (digits_number 0) (take-suc s i 0 h) ∙ number_last 0 (take i s) (get_or s i 0)

  first_some : 49 ≤ get_or s 0 0 → (i : ℕ) → suc i ≤ length s → 1 ≤ digits_number 0 (take (suc i) s)
  first_some h zero b = omega (arith, number_suc zero b)
  first_some h (suc i) b = omega (arith, number_suc (suc i) b, first_some h i (omega arith))

  -- The first digits of the row are those of their number, if no zero is idle.
  row_digits : (i k : ℕ) → suc i ≤ length s → suc i ≤ k → (1 ≤ i → 49 ≤ get_or s 0 0) → digits k (digits_number 0 (take (suc i) s)) ≡ take (suc i) s
  unfolding digits_number
  row_digits i zero b few lead = absurd (omega arith)
  row_digits zero (suc k) b few lead =
      let d = digit_at s all zero b in
      let v : digits_number 0 (take 1 s) ≡ get_or s 0 0 - 48 = omega (arith, number_suc zero b) in
      ap (digits (suc k)) v
      ∙ digit k (get_or s 0 0 - 48) (omega arith)
      ∙ ap (λ (x : ℕ). x ∷ []) (omega arith)
      ∙ sym (take-suc s zero 0 b)
  row_digits (suc i) (suc k) b few lead =
      let d = digit_at s all (suc i) b in
      let n = digits_number 0 (take (suc i) s) in
      let m = 10 * n + (get_or s (suc i) 0 - 48) in
      let some : 1 ≤ n = first_some (lead (omega arith)) i (omega arith) in
      let first : m / 10 ≡ n = omega arith in
      let last : 48 + m % 10 ≡ get_or s (suc i) 0 = omega arith in
      ap (digits (suc k)) (number_suc (suc i) b)
      ∙ tenth k m (omega arith)
      ∙ ap₂ (λ (l : List ℕ) (x : ℕ). l ++ x ∷ []) (ap (digits k) first ∙ row_digits i k (omega arith) (omega arith) (λ h. lead (omega arith))) last
      ∙ sym (take-suc s (suc i) 0 b)

-- A row of digits without an idle zero is that of its number.
pub digits_of_number : (s : List ℕ) (k : ℕ) → all_digits s ≡ true → idle_zero s ≡ false → 1 ≤ length s → length s ≤ k → digits k (digits_number 0 s) ≡ s
unfolding idle_zero
digits_of_number [] k all idle some few = absurd (omega arith)
digits_of_number (b ∷ s) k all idle some few =
    rw take-length at (row_digits (b ∷ s) all (length s) k (omega arith) (omega arith) lead)
  where
    lead : 1 ≤ length s → 49 ≤ b
    lead h =
        let other : b ≡ 48 → ⊥ = eqb-false b 48 (idle_long (b ∷ s) (omega arith) ∙ idle) in
        omega (arith, (digit_at (b ∷ s) all zero (omega arith)).0)
