-- The highest number of a mask.
use mathlib.Core.Path.{◌≡◌, refl, ap, ◌∙◌}
use mathlib.Core.Logic.{◌≢◌}
use Prim.Native.Nat.{ℕ, zero, suc, ◌+◌, ◌-◌, ◌*◌, ◌/◌, ◌%◌, ◌^◌, ◌≤◌, ◌<◌}
use native.Mathlib.Nat.{pow-succ', pow-le-pow_right, div-eq_of_lt}
use native.Mathlib.Omega.{arith}
use lib.Count.{count_leading_zeros, leading_top}
use lib.Dec.{eqb}
use lib.Pow.{high}
use Rattle.optimum.specs.Key.{in_mask}
use Rattle.masks.specs.Masks.{Highest}
use Rattle.masks.proofs.Bits.{nothing}

above_zero : (n : ℕ) → n ≢ 0 → 0 < n
above_zero zero e = absurd (e refl)
above_zero (suc n) e = omega arith

pub some_digit : (mask : ℕ) → mask ≢ 0 → mask < 2 ^ 64 → count_leading_zeros 64 mask ≤ 63
some_digit mask h b = omega (arith, (leading_top 64 mask (above_zero mask h) b).1)

-- The highest number of a mask that has one.
pub highest_is : (mask : ℕ) → mask ≢ 0 → mask < 2 ^ 64 → Highest mask (63 - count_leading_zeros 64 mask)
unfolding in_mask
highest_is mask h b =
    let t = leading_top 64 mask (above_zero mask h) b in
    let e : 63 - count_leading_zeros 64 mask ≡ t.0 = omega (arith, t.1) in
    rw e (record { few = omega (arith, t.1); has = λ s. ap (λ (x : ℕ). eqb (x % 2) 1) (digit t.0 t.2 t.3); none = λ j l. ap (λ (x : ℕ). eqb (x % 2) 1) (none t.0 t.3 j l); empty = λ z. absurd (h z) })
  where
    digit : (k : ℕ) → 2 ^ k ≤ mask → mask < 2 ^ suc k → mask / 2 ^ k ≡ 1
    digit k l u =
        let e : mask ≡ 1 * 2 ^ k + (mask - 2 ^ k) = omega arith in
        ap (λ (x : ℕ). x / 2 ^ k) e ∙ high 1 k (omega (arith, pow-succ' 2 k))

    none : (k : ℕ) → mask < 2 ^ suc k → (j : ℕ) → k < j → mask / 2 ^ j ≡ 0
    none k u j l = div-eq_of_lt (omega (arith, pow-le-pow_right {n = 2} (omega arith) l))

-- The empty mask has none.
pub highest_none : Highest 0 0
highest_none = record { few = omega arith; has = λ h. absurd (h refl); none = λ j l. nothing j; empty = λ z. refl }
