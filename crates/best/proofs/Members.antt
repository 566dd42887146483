-- The lowest number of a mask, and the numbers taken off from the lowest on.
use mathlib.Core.Path.{◌≡◌, refl, sym, ap, ap₂, ◌∙◌}
use mathlib.Core.Bool.{Bool, true, false, cond, ◌&&◌, false≢true}
use mathlib.Core.Logic.{◌≢◌, inl, inr}
use Prim.Native.Nat.{ℕ, zero, suc, ◌+◌, ◌-◌, ◌*◌, ◌/◌, ◌%◌, ◌^◌, ◌≤◌, ◌<◌}
use lib.Pow.{pow_pos, split, low, mod-pow-add}
use native.Mathlib.Nat.{suc-mul, mul_assoc, pow-succ', div-div-eq-div-mul}
use native.Mathlib.Omega.{arith}
use borrow.Author.Tests.{lt-ltb, le-leb, lt-leb, eqb-true, eqb-false}
use lib.Bits.{bit_and, and_block, and_self, and_mask}
use lib.Count.{count_trailing_zeros}
use lib.Dec.{eqb, leb}
use Rattle.tree.proofs.Leaves.{lt_or_le}
use Rattle.optimum.specs.Key.{mask_of, in_mask}
use Rattle.optimum.proofs.Masks.{mask_self}
use Rattle.masks.proofs.Bits.{mask_same, mask_has, nothing}
use Rattle.best.specs.inner.Scratch.{Lowest}

-- ---- the lowest number of a mask

digit_above : (n j : ℕ) → n / 2 ^ suc j % 2 ≡ n / 2 / 2 ^ j % 2
digit_above n j = ap (λ (x : ℕ). n / x % 2) (pow-succ' 2 j) ∙ ap (λ (x : ℕ). x % 2) (sym (div-div-eq-div-mul n 2 (2 ^ j)))

zeros_below : (w n j : ℕ) → j < count_trailing_zeros w n → n / 2 ^ j % 2 ≡ 0
unfolding count_trailing_zeros
zeros_below zero n j h = absurd (omega arith)
zeros_below (suc w) n j h = go (n % 2) refl j h (zeros_below w (n / 2))
  where
    go : (d : ℕ) → n % 2 ≡ d → (j : ℕ) → j < count_trailing_zeros (suc w) n → ((i : ℕ) → i < count_trailing_zeros w (n / 2) → n / 2 / 2 ^ i % 2 ≡ 0) → n / 2 ^ j % 2 ≡ 0
    go zero e zero l below = omega (arith, e)
    go zero e (suc i) l below = digit_above n i ∙ below i (let m = (rw e at l) in omega (arith, m))
    go (suc d) e j l below = let m = (rw e at l) in absurd (omega (arith, m))

one_at : (w n : ℕ) → n ≢ 0 → n < 2 ^ w → (count_trailing_zeros w n < w) × (n / 2 ^ count_trailing_zeros w n % 2 ≡ 1)
unfolding count_trailing_zeros
one_at zero n h b = absurd (h (omega arith))
one_at (suc w) n h b = go (n % 2) refl (one_at w (n / 2))
  where
    go : (d : ℕ) → n % 2 ≡ d → (n / 2 ≢ 0 → n / 2 < 2 ^ w → (count_trailing_zeros w (n / 2) < w) × (n / 2 / 2 ^ count_trailing_zeros w (n / 2) % 2 ≡ 1)) → (count_trailing_zeros (suc w) n < suc w) × (n / 2 ^ count_trailing_zeros (suc w) n % 2 ≡ 1)
    go zero e later =
        let r = later (λ z. h (omega (arith, e, z))) (omega (arith, pow-succ' 2 w)) in
        rw e (omega (arith, r.0), digit_above n (count_trailing_zeros w (n / 2)) ∙ r.1)
    go (suc d) e later = rw e (omega arith, omega (arith, e))

pub lowest_is : (mask : ℕ) → mask ≢ 0 → mask < 2 ^ 64 → Lowest mask (count_trailing_zeros 64 mask)
unfolding in_mask
lowest_is mask h b =
    let r = one_at 64 mask h b in
    record { few = r.0; has = ap (λ (x : ℕ). eqb x 1) r.1; none = λ j l. ap (λ (x : ℕ). eqb x 1) (zeros_below 64 mask j l) }

-- A mask and the number before it have all in common but the lowest.
zero_below : (n z : ℕ) → ((j : ℕ) → j < z → n / 2 ^ j % 2 ≡ 0) → n % 2 ^ z ≡ 0
zero_below n zero h = omega arith
zero_below n (suc z) h =
    let e : suc z ≡ 1 + z = omega arith in
    ap (λ (x : ℕ). n % 2 ^ x) e ∙ mod-pow-add n 1 z ∙ rw (h z (omega arith), zero_below n z (λ j b. h j (omega arith))) (omega arith)

pub lowest_off : (n z : ℕ) → Lowest n z → bit_and n (n - 1) ≡ n - 2 ^ z
unfolding in_mask
lowest_off n z l =
    ap (λ (x : ℕ). bit_and x (n - 1)) odd
    ∙ ap (bit_and (h * 2 ^ suc z + 2 ^ z)) before
    ∙ and_block (suc z) h h (2 ^ z) (2 ^ z - 1) (omega (arith, pow_pos z, pow-succ' 2 z)) (omega (arith, pow_pos z, pow-succ' 2 z))
    ∙ ap₂ (λ (x y : ℕ). x * 2 ^ suc z + y) (and_self h) (and_mask (2 ^ z) z ∙ mod_self)
    ∙ omega (arith, odd)
  where
    h : ℕ
    h = n / 2 ^ z / 2

    digit : n / 2 ^ z % 2 ≡ 1
    digit = eqb-true _ 1 l.has

    odd : n ≡ h * 2 ^ suc z + 2 ^ z
    odd =
        let e : n / 2 ^ z ≡ suc (h * 2) = omega (arith, digit) in
        omega (
          arith,
          split n z,
          ap (λ (x : ℕ). x * 2 ^ z) e,
          suc-mul (h * 2) (2 ^ z),
          mul_assoc h 2 (2 ^ z),
          ap (λ (x : ℕ). h * x) (pow-succ' 2 z),
          zero_below n z (λ j b. let d = eqb-false (n / 2 ^ j % 2) 1 (l.none j b) in omega (arith, d)),
        )

    before : n - 1 ≡ h * 2 ^ suc z + (2 ^ z - 1)
    before = omega (arith, odd, pow_pos z)

    mod_self : 2 ^ z % 2 ^ z ≡ 0
    mod_self = let e : 1 * 2 ^ z + 0 ≡ 2 ^ z = omega arith in ap (λ (x : ℕ). x % 2 ^ z) (sym e) ∙ low 1 z (pow_pos z)

-- ---- a mask without its lowest numbers

-- A set without one of its numbers.
without : (f g : ℕ → Bool) (z n : ℕ) → f z ≡ true → g z ≡ false → ((j : ℕ) → j ≢ z → f j ≡ g j) → z < n → mask_of f n ≡ 2 ^ z + mask_of g n
unfolding mask_of
without f g z zero t u same h = absurd (omega arith)
without f g z (suc n) t u same h = elim (lt_or_le z n) [ inl l ↦ more l (f n) (g n) (same n (λ e. omega arith)) (without f g z n t u same l) | inr l ↦ (let e : n ≡ z = omega arith in top e) ]
  where
    more : z < n → (x y : Bool) → x ≡ y → mask_of f n ≡ 2 ^ z + mask_of g n → cond x (2 ^ n + mask_of f n) (mask_of f n) ≡ 2 ^ z + cond y (2 ^ n + mask_of g n) (mask_of g n)
    more l true true e r = omega arith
    more l true false e r = absurd (false≢true (sym e))
    more l false true e r = absurd (false≢true e)
    more l false false e r = r

    top : n ≡ z → cond (f n) (2 ^ n + mask_of f n) (mask_of f n) ≡ 2 ^ z + cond (g n) (2 ^ n + mask_of g n) (mask_of g n)
    top e = rw (e, t, u) (ap (λ (x : ℕ). 2 ^ z + x) (mask_same f g z (λ j b. same j (λ d. omega arith))))

-- What a mask has from k on.
abbrev above : ℕ → ℕ → ℕ → Bool
above mask k j = leb k j && in_mask mask j

pub record Left (mask k rest : ℕ) : Type 0 where
  pub is : rest ≡ mask_of (above mask k) 64

pub left_start : (mask : ℕ) → mask < 2 ^ 64 → Left mask 0 mask
left_start mask b = record { is = mask_self 64 mask b ∙ mask_same (in_mask mask) (above mask 0) 64 (λ j h. rw (le-leb 0 j (omega arith))) }

module _ {mask k rest : ℕ} (h : Left mask k rest) where
  has : (j : ℕ) → j < 64 → in_mask rest j ≡ above mask k j
  has j b = ap (λ (x : ℕ). in_mask x j) h.is ∙ mask_has (above mask k) 64 j ∙ rw (lt-ltb j 64 b)

  reached : (j : ℕ) → k ≤ j → above mask k j ≡ in_mask mask j
  reached j b = rw (le-leb k j b)

  -- Nothing is left.
  pub left_none : rest ≡ 0 → (j : ℕ) → k ≤ j → j < 64 → in_mask mask j ≡ false
  left_none z j b l = sym (reached j b) ∙ sym (has j l) ∙ ap (λ (x : ℕ). in_mask x j) z ∙ nothing j

  -- The lowest of what is left is taken off.
  module _ {z : ℕ} (low : Lowest rest z) where
    pub left_past : (j : ℕ) → k ≤ j → j < z → in_mask mask j ≡ false
    left_past j b l = sym (reached j b) ∙ sym (has j (omega (arith, low.few))) ∙ low.none j l

    there : above mask k z ≡ true
    there = sym (has z low.few) ∙ low.has

    pub left_from : k ≤ z
    left_from = elim (lt_or_le z k) [ inl l ↦ absurd (false≢true (rw (lt-leb k z l) at there)) | inr l ↦ l ]

    pub left_has : in_mask mask z ≡ true
    left_has = sym (reached z left_from) ∙ there

    off : rest ≡ 2 ^ z + mask_of (above mask (z + 1)) 64
    off = h.is ∙ without (above mask k) (above mask (z + 1)) z 64 there (rw (lt-leb (z + 1) z (omega arith))) same low.few
      where
        same : (j : ℕ) → j ≢ z → above mask k j ≡ above mask (z + 1) j
        same j d =
            elim (lt_or_le j k) [
              | inl l ↦ rw (lt-leb k j l, lt-leb (z + 1) j (omega (arith, left_from)))
              | inr l ↦ elim (lt_or_le j z) [
                | inl m ↦ rw (lt-leb (z + 1) j (omega arith), left_past j l m, le-leb k j l)
                | inr m ↦ rw (le-leb k j l, le-leb (z + 1) j (omega (arith, d)))
              ]
            ]

    pub left_less : rest - 2 ^ z < rest
    left_less = omega (arith, off, pow_pos z)

    pub left_next : Left mask (z + 1) (rest - 2 ^ z)
    left_next = record { is = omega (arith, off) }
