-- A number in decimal is its last digit behind its tenth in decimal, and has at most twenty digits.
use mathlib.Core.Path.{◌≡◌, sym, ap, ap₂, ◌∙◌}
use mathlib.Core.Bool.{Bool, true, false, cond}
use mathlib.Core.List.{List, [], ◌∷◌, ◌++◌, append-nil, append_assoc}
use Prim.Native.Nat.{ℕ, zero, suc, ◌+◌, ◌-◌, ◌/◌, ◌%◌, ◌^◌, ◌<◌, ◌≤◌}
use native.Mathlib.Nat.{div-lt_iff_lt-mul, pow-suc}
use native.Mathlib.Omega.{arith}
use lib.ListN.{length, set, take, drop, length-append, length-set, length-drop, drop_of_length-le}
use lib.Seq.{take_all, drop-cons, drop-set-lt, get_or-set_same}
use lib.Dec.{ltb}
use borrow.Author.Tests.{lt-ltb, le-ltb}
use Rattle.write.specs.Decimal.{digits, decimal}

-- A number below 10 is one digit, whatever the places.
pub digit : (k n : ℕ) → n < 10 → digits (suc k) n ≡ (48 + n) ∷ []
unfolding digits
digit k n small = rw (lt-ltb n 10)

pub tenth : (k n : ℕ) → 10 ≤ n → digits (suc k) n ≡ digits k (n / 10) ++ ((48 + n % 10) ∷ [])
unfolding digits
tenth k n large = rw (le-ltb n 10)

-- How long a number in decimal is at most.
either : (b : Bool) (x y : List ℕ) (n : ℕ) → length x ≤ n → length y ≤ n → length (cond b x y) ≤ n
either true x y n p q = p
either false x y n p q = q

length_digits : (k n : ℕ) → length (digits k n) ≤ k
unfolding digits
length_digits zero n = omega arith
length_digits (suc k) n =
    either (ltb n 10) ((48 + n) ∷ []) (digits k (n / 10) ++ ((48 + n % 10) ∷ [])) (suc k) (omega arith)
    (omega (arith, length_digits k (n / 10), length-append (digits k (n / 10)) ((48 + n % 10) ∷ [])))

pub length_decimal : (n : ℕ) → length (decimal n) ≤ 20
length_decimal n = length_digits 20 n

pub length_two : (n : ℕ) → n < 100 → length (decimal n) ≤ 2
unfolding digits
length_two n small =
    either (ltb n 10) ((48 + n) ∷ []) (digits 19 (n / 10) ++ ((48 + n % 10) ∷ [])) 2 (omega arith)
    (simp (length-append, digit 18 (n / 10) (omega arith)) (omega arith))

-- The decimal form of n is that of the rest, in the places up to this one, and the digits that stand behind it.
pub record Spelled (n : ℕ) (places : List ℕ) (rest at : ℕ) : Type 0 where
  pub within : at ≤ 19
  pub long : length places ≡ 20
  pub small : rest < 10 ^ suc at
  pub whole : decimal n ≡ digits (suc at) rest ++ drop (suc at) places

pub spelled_start : (n : ℕ) (places : List ℕ) → n < 2 ^ 64 → length places ≡ 20 → Spelled n places n 19
spelled_start n places fits long = record {
  within = omega arith;
  long = long;
  small = omega arith;
  whole = sym (ap (λ (l : List ℕ). digits 20 n ++ l) (drop_of_length-le places {i = 20} (omega arith)) ∙ append-nil (digits 20 n));
}

-- A digit stands in front of those behind it.
digit_first : (places : List ℕ) (at d : ℕ) → at < length places → drop at (set places at d) ≡ d ∷ drop (suc at) places
digit_first places at d h =
    drop-cons (set places at d) at 0 (rw length-set h)
    ∙ ap₂ (λ (x : ℕ) (l : List ℕ). x ∷ l) (get_or-set_same places at d 0 h) (drop-set-lt (suc at) places at d (omega arith))

module _ {n : ℕ} {places : List ℕ} where
  pub spelled_some : {rest at : ℕ} → Spelled n places rest at → 10 ≤ rest → 0 < at
  spelled_some {at = zero} s large = absurd (let few = s.small in omega arith)
  spelled_some {at = suc k} s large = omega arith

  pub spelled_more : {rest at : ℕ} → Spelled n places rest at → 10 ≤ rest → Spelled n (set places at (48 + rest % 10)) (rest / 10) (at - 1)
  spelled_more {at = zero} s large = absurd (let few = spelled_some s large in omega arith)
  spelled_more {rest = rest} {at = suc k} s large =
      let e : suc k - 1 ≡ k = omega arith in
      let inside : suc k < length places = omega (arith, s.long, s.within) in
      rw e
      (record {
        within = omega (arith, s.within);
        long = rw length-set s.long;
        small = (div-lt_iff_lt-mul {k = 10} {x = rest} {y = 10 ^ suc k} (omega arith)).1 (rw pow-suc at s.small);
        whole =
            s.whole
            ∙ ap (λ (l : List ℕ). l ++ drop (suc (suc k)) places) (tenth (suc k) rest large)
            ∙ append_assoc (digits (suc k) (rest / 10)) ((48 + rest % 10) ∷ []) (drop (suc (suc k)) places)
            ∙ ap (λ (l : List ℕ). digits (suc k) (rest / 10) ++ l) (sym (digit_first places (suc k) (48 + rest % 10) inside));
      })

  pub spelled_all : {rest at : ℕ} → Spelled n places rest at → rest < 10 → drop at (set places at (48 + rest)) ≡ decimal n
  spelled_all {rest = rest} {at = at} s few =
      digit_first places at (48 + rest) (omega (arith, s.long, s.within))
      ∙ sym (s.whole ∙ ap (λ (l : List ℕ). l ++ drop (suc at) places) (digit at rest few))

-- The part of twenty places from the first digit on is all that stands there.
pub part_digits : (n first : ℕ) (places : List ℕ) → length places ≡ 20 → drop first places ≡ decimal n → take (20 - first) (drop first places) ≡ decimal n
part_digits n first places long e = take_all (20 - first) (drop first places) (omega (arith, length-drop first places)) ∙ e
