-- Digits one by one, and the numbers that they stand for.
use mathlib.Core.Path.{◌≡◌}
use mathlib.Core.Bool.{true, ◌&&◌}
use mathlib.Core.List.{List}
use Prim.Native.Nat.{ℕ, suc, ◌+◌, ◌-◌, ◌*◌, ◌^◌, ◌≤◌, ◌<◌}
use native.Mathlib.Nat.{pow-suc}
use native.Mathlib.Omega.{arith}
use lib.ListN.{length, drop, get_or}
use lib.Seq.{drop-cons, drop-length}
use lib.Dec.{leb}
use borrow.Author.Tests.{leb-true}
use Rattle.answer.proofs.Tells.{both_true}
use Rattle.decimal.specs.Score.{is_digit, all_digits, digits_number}

-- A digit is 48 and what it stands for.
pub digit_range : (b : ℕ) → is_digit b ≡ true → (48 ≤ b) × (b ≤ 57)
unfolding is_digit
digit_range b h = let w = both_true (leb 48 b) (leb b 57) h in (leb-true 48 b w.0, leb-true b 57 w.1)

-- Digits from a place on: the first and the others.
module _ (s : List ℕ) (i : ℕ) where
  pub all_more : i < length s → all_digits (drop i s) ≡ (is_digit (get_or s i 0) && all_digits (drop (suc i) s))
  unfolding all_digits
  all_more some = rw (drop-cons s i 0 some)

  pub number_more : (n : ℕ) → i < length s → digits_number n (drop i s) ≡ digits_number (10 * n + (get_or s i 0 - 48)) (drop (suc i) s)
  unfolding digits_number
  number_more n some = rw (drop-cons s i 0 some)

  pub number_none : (n : ℕ) → i ≡ length s → digits_number n (drop i s) ≡ n
  unfolding digits_number
  number_none n all = rw (all, drop-length)

-- The digits passed so far stand for n, and those from place i on are still to come.
pub record Passed (s : List ℕ) (n i : ℕ) : Type 0 where
  pub within : i ≤ length s
  pub digits : all_digits (drop i s) ≡ true
  pub small : n < 10 ^ i
  pub so_far : digits_number n (drop i s) ≡ digits_number 0 s

module _ (s : List ℕ) (few : length s ≤ 5) where
  module _ {n i : ℕ} (p : Passed s n i) where
    module _ (some : i < length s) where
      pub passed_digit : (48 ≤ get_or s i 0) × (get_or s i 0 ≤ 57)
      passed_digit = digit_range (get_or s i 0) (both_true (is_digit (get_or s i 0)) (all_digits (drop (suc i) s)) (rw (all_more s i some) at p.digits)).0

      pub passed_more : Passed s (10 * n + (get_or s i 0 - 48)) (suc i)
      passed_more = record {
        within = some;
        digits = (both_true (is_digit (get_or s i 0)) (all_digits (drop (suc i) s)) (rw (all_more s i some) at p.digits)).1;
        small = rw pow-suc (omega (arith, p.small, passed_digit));
        so_far = rw (number_more s i n some) at p.so_far;
      }
