-- Masks: their bits are the numbers of the set, and the smaller of two is that of the set that wins by the tie rule.
use mathlib.Core.Path.{◌≡◌, refl, sym, ap, subst, ◌∙◌, fun_ext}
use mathlib.Core.Bool.{Bool, true, false, not, cond}
use mathlib.Core.Logic.{◌⊎◌, inl, inr}
use Prim.Native.Nat.{ℕ, zero, suc, ◌+◌, ◌*◌, ◌^◌, ◌/◌, ◌%◌, ◌≤◌, ◌<◌}
use native.Mathlib.Nat.{pow-succ', pow-le-pow_right, div-eq_of_lt, div-div-eq-div-mul}
use native.Mathlib.Omega.{arith}
use lib.Dec.{T, not_T, eqb}
use Rattle.std.proofs.lemmas.Bool.{cases_eq, cases_lt}
use Rattle.optimum.specs.Chain.{Wins}
use Rattle.optimum.specs.Key.{mask_of, in_mask}
use Rattle.optimum.proofs.Booleans.{Is, yes, no, is, T-eq, T-neq}

mask_in : (f : ℕ → Bool) (n : ℕ) → T (f n) → mask_of f (suc n) ≡ 2 ^ n + mask_of f n
unfolding mask_of
mask_in f n t = rw (T-eq {b = f n} t)

mask_out : (f : ℕ → Bool) (n : ℕ) → T (not (f n)) → mask_of f (suc n) ≡ mask_of f n
unfolding mask_of
mask_out f n t = rw (T-neq {b = f n} t)

-- The mask of a set of numbers below n is below the power of two.
pub mask_below : (f : ℕ → Bool) (n : ℕ) → mask_of f n < 2 ^ n
unfolding mask_of
mask_below f zero = omega arith
mask_below f (suc n) = go (is (f n)) (mask_below f n)
  where
    go : Is (f n) → mask_of f n < 2 ^ n → mask_of f (suc n) < 2 ^ suc n
    go (yes t) h = omega (arith, mask_in f n t, pow-succ' 2 n)
    go (no t) h = omega (arith, mask_out f n t, pow-succ' 2 n)

-- Of two sets that agree from n on, the one with the smaller mask wins.
pub mask_tie : (f g : ℕ → Bool) (n : ℕ) → ((i : ℕ) → n ≤ i → f i ≡ g i) → mask_of f n ≤ mask_of g n → ((i : ℕ) → f i ≡ g i) ⊎ Wins f g
mask_tie f g zero h m = inl (λ i. h i (omega arith))
mask_tie f g (suc n) h m = go (is (f n)) (is (g n)) (λ e. mask_tie f g n (from e))
  where
    from : f n ≡ g n → (i : ℕ) → n ≤ i → f i ≡ g i
    from e i b = elim (cases_eq n i) [ inl q ↦ subst (λ x. f x ≡ g x) q e | inr ne ↦ h i (omega arith) ]

    go : Is (f n) → Is (g n) → (f n ≡ g n → mask_of f n ≤ mask_of g n → ((i : ℕ) → f i ≡ g i) ⊎ Wins f g) → ((i : ℕ) → f i ≡ g i) ⊎ Wins f g
    go (yes t) (yes r) lower = lower (T-eq t ∙ sym (T-eq r)) (omega (arith, mask_in f n t, mask_in g n r))
    go (yes t) (no r) lower = absurd (omega (arith, mask_in f n t, mask_out g n r, mask_below g n))
    go (no t) (yes r) lower = inr (record { highest = n; without = t; other_has = r; above = λ i b. h i (omega arith) })
    go (no t) (no r) lower = lower (T-neq t ∙ sym (T-neq r)) (omega (arith, mask_out f n t, mask_out g n r))

-- ---- the bits of a mask

abbrev digit : Bool → ℕ
digit true = 1
digit false = 0

mask_low : (f : ℕ → Bool) (n : ℕ) → mask_of f (suc n) ≡ digit (f 0) + 2 * mask_of (λ i. f (suc i)) n
unfolding mask_of
mask_low f zero = go (f 0)
  where
    go : (b : Bool) → cond b (2 ^ 0 + 0) 0 ≡ digit b + 2 * 0
    go true = refl
    go false = refl
mask_low f (suc n) = go (f (suc n)) (mask_low f n)
  where
    go : (b : Bool) → mask_of f (suc n) ≡ digit (f 0) + 2 * mask_of (λ i. f (suc i)) n → cond b (2 ^ suc n + mask_of f (suc n)) (mask_of f (suc n)) ≡ digit (f 0) + 2 * cond b (2 ^ n + mask_of (λ i. f (suc i)) n) (mask_of (λ i. f (suc i)) n)
    go true h = omega (arith, pow-succ' 2 n)
    go false h = omega arith

digit_mod : (b : Bool) (m : ℕ) → (digit b + 2 * m) % 2 ≡ digit b
digit_mod true m = omega arith
digit_mod false m = omega arith

digit_div : (b : Bool) (m : ℕ) → (digit b + 2 * m) / 2 ≡ m
digit_div true m = omega arith
digit_div false m = omega arith

mask_digit : (f : ℕ → Bool) (n i : ℕ) → i < n → mask_of f n / 2 ^ i % 2 ≡ digit (f i)
mask_digit f zero i b = absurd (omega arith)
mask_digit f (suc n) zero b = ap (λ x. x / 1 % 2) (mask_low f n) ∙ by_one (digit (f 0) + 2 * mask_of (λ i. f (suc i)) n) ∙ digit_mod (f 0) (mask_of (λ i. f (suc i)) n)
  where
    by_one : (x : ℕ) → x / 1 % 2 ≡ x % 2
    by_one x = omega arith
mask_digit f (suc n) (suc i) b =
    ap (λ x. mask_of f (suc n) / x % 2) (pow-succ' 2 i)
    ∙ ap (λ x. x % 2) (sym (div-div-eq-div-mul (mask_of f (suc n)) 2 (2 ^ i)))
    ∙ ap (λ x. x / 2 / 2 ^ i % 2) (mask_low f n)
    ∙ ap (λ x. x / 2 ^ i % 2) (digit_div (f 0) (mask_of (λ j. f (suc j)) n))
    ∙ mask_digit (λ j. f (suc j)) n i (omega arith)

-- A mask has the numbers of its set, and no other.
pub mask_bit : (f : ℕ → Bool) (n : ℕ) → ((i : ℕ) → T (f i) → i < n) → (i : ℕ) → in_mask (mask_of f n) i ≡ f i
unfolding in_mask
mask_bit f n below i = elim (cases_lt i n) [ inl l ↦ ap (λ x. eqb x 1) (mask_digit f n i l) ∙ digit_is (f i) | inr h ↦ past h ]
  where
    digit_is : (b : Bool) → eqb (digit b) 1 ≡ b
    digit_is true = refl
    digit_is false = refl

    none : n ≤ i → mask_of f n / 2 ^ i ≡ 0
    none h = div-eq_of_lt (omega (arith, mask_below f n, pow-le-pow_right {n = 2} (omega arith) h))

    past : n ≤ i → eqb (mask_of f n / 2 ^ i % 2) 1 ≡ f i
    past h = ap (λ x. eqb (x % 2) 1) (none h) ∙ sym (T-neq (not_T (f i) (λ s. omega (arith, below i s))))

-- A number is the mask of its bits.
digit_of : (d : ℕ) → d < 2 → digit (eqb d 1) ≡ d
digit_of zero h = refl
digit_of (suc zero) h = refl
digit_of (suc (suc d)) h = absurd (omega arith)

bit_above : (m i : ℕ) → in_mask (m / 2) i ≡ in_mask m (suc i)
unfolding in_mask
bit_above m i = ap (λ x. eqb (x % 2) 1) (div-div-eq-div-mul m 2 (2 ^ i) ∙ ap (λ x. m / x) (sym (pow-succ' 2 i)))

pub mask_self : (n m : ℕ) → m < 2 ^ n → m ≡ mask_of (in_mask m) n
unfolding mask_of in_mask
mask_self zero m h = omega arith
mask_self (suc n) m h =
    omega (
      arith,
      digit_of (m / 1 % 2) (omega arith),
      mask_self n (m / 2) (omega (arith, pow-succ' 2 n)),
      ap (λ f. mask_of f n) (fun_ext (bit_above m)),
      mask_low (in_mask m) n,
    )
