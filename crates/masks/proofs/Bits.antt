-- Which numbers masks have: one of a set, those made of two, that of one number, and that of all.
use mathlib.Core.Path.{◌≡◌, refl, sym, ap, ◌∙◌}
use mathlib.Core.Bool.{Bool, true, false, not, cond, ◌&&◌, ◌||◌}
use mathlib.Core.Logic.{◌⊎◌, inl, inr}
use Prim.Native.Nat.{ℕ, zero, suc, ◌+◌, ◌-◌, ◌/◌, ◌%◌, ◌^◌, ◌≤◌, ◌<◌}
use native.Mathlib.Nat.{pow-succ'}
use native.Mathlib.Omega.{arith}
use borrow.Author.Tests.{eq-eqb, ne_eqb, eqb-true, lt-ltb, le-ltb}
use lib.Bits.{bit_and, bit_or, bit_xor, and_shr, and_mod, and_lt, or_shr, or_mod, xor_shr, xor_mod, xor_lt}
use lib.Dec.{T, eqb, ltb, ltb→lt, lt→ltb}
use Rattle.tree.proofs.Leaves.{lt_or_le}
use Rattle.optimum.specs.Key.{mask_of, in_mask}
use Rattle.optimum.proofs.Booleans.{T-eq, and_l, and_r}
use Rattle.optimum.proofs.Masks.{mask_below, mask_bit, mask_self}
use Rattle.masks.specs.Masks.{minus}

and_digits : (x y : ℕ) → x < 2 → y < 2 → eqb (bit_and x y) 1 ≡ (eqb x 1 && eqb y 1)
and_digits zero y h k = refl
and_digits (suc zero) zero h k = refl
and_digits (suc zero) (suc zero) h k = refl
and_digits (suc zero) (suc (suc y)) h k = absurd (omega arith)
and_digits (suc (suc x)) y h k = absurd (omega arith)

-- The mask of the numbers that two masks have in common.
pub common : (a b i : ℕ) → in_mask (bit_and a b) i ≡ (in_mask a i && in_mask b i)
unfolding in_mask
common a b i =
    ap (λ x. eqb (x % 2) 1) (and_shr a b i)
    ∙ ap (λ x. eqb x 1) (and_mod (a / 2 ^ i) (b / 2 ^ i) 1)
    ∙ and_digits (a / 2 ^ i % 2) (b / 2 ^ i % 2) (omega arith) (omega arith)

or_digits : (x y : ℕ) → x < 2 → y < 2 → eqb (bit_or x y) 1 ≡ (eqb x 1 || eqb y 1)
or_digits zero zero h k = refl
or_digits zero (suc zero) h k = refl
or_digits zero (suc (suc y)) h k = absurd (omega arith)
or_digits (suc zero) zero h k = refl
or_digits (suc zero) (suc zero) h k = refl
or_digits (suc zero) (suc (suc y)) h k = absurd (omega arith)
or_digits (suc (suc x)) y h k = absurd (omega arith)

-- The mask of the numbers that one of two masks has.
pub either : (a b i : ℕ) → in_mask (bit_or a b) i ≡ (in_mask a i || in_mask b i)
unfolding in_mask
either a b i =
    ap (λ (x : ℕ). eqb (x % 2) 1) (or_shr a b i)
    ∙ ap (λ (x : ℕ). eqb x 1) (or_mod (a / 2 ^ i) (b / 2 ^ i) 1)
    ∙ or_digits (a / 2 ^ i % 2) (b / 2 ^ i % 2) (omega arith) (omega arith)

pub in_either : (a b i : ℕ) → in_mask (bit_or a b) i ≡ true → (in_mask a i ≡ true) ⊎ (in_mask b i ≡ true)
in_either a b i e = go (in_mask a i) (sym (either a b i) ∙ e)
  where
    go : (x : Bool) → (x || in_mask b i) ≡ true → (x ≡ true) ⊎ (in_mask b i ≡ true)
    go true f = inl refl
    go false f = inr f

pub mask_same : (f g : ℕ → Bool) (n : ℕ) → ((i : ℕ) → i < n → f i ≡ g i) → mask_of f n ≡ mask_of g n
unfolding mask_of
mask_same f g zero h = refl
mask_same f g (suc n) h = cc (mask_same f g n (λ i b. h i (omega arith)), h n (omega arith))

-- A mask has the numbers below n that pass, and no other.
pub mask_has : (f : ℕ → Bool) (n i : ℕ) → in_mask (mask_of f n) i ≡ (ltb i n && f i)
mask_has f n i =
    ap (λ m. in_mask m i) (mask_same f (λ j. ltb j n && f j) n (λ j b. rw (T-eq {b = ltb j n} (lt→ltb j n b))))
    ∙ mask_bit (λ j. ltb j n && f j) n (λ j t. ltb→lt j n (and_l (ltb j n) (f j) t)) i

-- The mask of no number.
pub nothing : (j : ℕ) → in_mask 0 j ≡ false
unfolding mask_of
nothing j = mask_has (λ i. false) 0 j ∙ rw (le-ltb j 0 (omega arith))

-- What such a mask says of a number.
pub mask_says : (f : ℕ → Bool) (x y : ℕ) {m : ℕ} → m ≡ mask_of f y → T (in_mask m x) → (x < y) × (f x ≡ true)
mask_says f x y e t =
    let h : T (ltb x y && f x) = rw (← mask_has f y x, ← e) t in
    (ltb→lt x y (and_l (ltb x y) (f x) h), T-eq (and_r (ltb x y) (f x) h))

-- Numbers that do not pass change no mask.
pub mask_past : (f : ℕ → Bool) (k n : ℕ) → k ≤ n → ((j : ℕ) → k ≤ j → j < n → f j ≡ false) → mask_of f n ≡ mask_of f k
unfolding mask_of
mask_past f k zero h t = let z : zero ≡ k = omega arith in ap (mask_of f) z
mask_past f k (suc n) h t =
    elim (lt_or_le n k) [
      | inl g ↦ (let z : suc n ≡ k = omega arith in ap (mask_of f) z)
      | inr g ↦ rw (t n g (omega arith)) (mask_past f k n g (λ j a b. t j a (omega arith)))
    ]

-- The mask of one number.
one : (k : ℕ) → mask_of (λ j. eqb j k) (suc k) ≡ 2 ^ k
unfolding mask_of
one k = rw (eq-eqb k k refl, mask_past (λ j. eqb j k) 0 k (omega arith) (λ j a b. ne_eqb j k (λ e. omega arith))) (omega arith)

pub alone_has : (k j : ℕ) → in_mask (2 ^ k) j ≡ eqb j k
alone_has k j = ap (λ (m : ℕ). in_mask m j) (sym (one k)) ∙ mask_has (λ i. eqb i k) (suc k) j ∙ below (lt_or_le j (suc k))
  where
    below : (j < suc k) ⊎ (suc k ≤ j) → (ltb j (suc k) && eqb j k) ≡ eqb j k
    below (inl h) = rw (lt-ltb j (suc k) h)
    below (inr h) = rw (le-ltb j (suc k) h, ne_eqb j k (λ e. omega arith))

pub alone_is : (k j : ℕ) → in_mask (2 ^ k) j ≡ true → j ≡ k
alone_is k j e = eqb-true j k (sym (alone_has k j) ∙ e)

-- The mask of the numbers below one.
all_below : (n : ℕ) → mask_of (λ j. true) n + 1 ≡ 2 ^ n
unfolding mask_of
all_below zero = refl
all_below (suc n) = omega (arith, all_below n, pow-succ' 2 n)

pub below_has : (n j : ℕ) → in_mask (2 ^ n - 1) j ≡ ltb j n
below_has n j =
    let e : 2 ^ n - 1 ≡ mask_of (λ i. true) n = omega (arith, all_below n) in
    ap (λ (m : ℕ). in_mask m j) e ∙ mask_has (λ i. true) n j ∙ with_true (ltb j n)
  where
    with_true : (b : Bool) → (b && true) ≡ b
    with_true true = refl
    with_true false = refl

ones : mask_of (λ j. true) 64 ≡ 18446744073709551615
unfolding mask_of
ones = refl

-- The mask of 64 ones has every number below 64.
pub all_ones : (i : ℕ) → i < 64 → in_mask 18446744073709551615 i ≡ true
all_ones i h = rw (← ones, mask_has (λ j. true) 64 i, T-eq {b = ltb i 64} (lt→ltb i 64 h))

-- What a test that a program has made says.
pub told_yes : {a b : Bool} → a ≡ b → a ≡ true → T b
told_yes e t = rw (← e, t) tt

-- ---- a mask without the numbers of another

off_digits : (x y : ℕ) → x < 2 → y < 2 → eqb (bit_xor x (bit_and x y)) 1 ≡ (eqb x 1 && not (eqb y 1))
off_digits zero zero h k = refl
off_digits zero (suc zero) h k = refl
off_digits zero (suc (suc y)) h k = absurd (omega arith)
off_digits (suc zero) zero h k = refl
off_digits (suc zero) (suc zero) h k = refl
off_digits (suc zero) (suc (suc y)) h k = absurd (omega arith)
off_digits (suc (suc x)) y h k = absurd (omega arith)

off : (a b i : ℕ) → in_mask (bit_xor a (bit_and a b)) i ≡ (in_mask a i && not (in_mask b i))
unfolding in_mask
off a b i =
    ap (λ (x : ℕ). eqb (x % 2) 1) (xor_shr a (bit_and a b) i ∙ ap (bit_xor (a / 2 ^ i)) (and_shr a b i))
    ∙ ap (λ (x : ℕ). eqb x 1) (xor_mod (a / 2 ^ i) (bit_and (a / 2 ^ i) (b / 2 ^ i)) 1 ∙ ap (bit_xor (a / 2 ^ i % 2)) (and_mod (a / 2 ^ i) (b / 2 ^ i) 1))
    ∙ off_digits (a / 2 ^ i % 2) (b / 2 ^ i % 2) (omega arith) (omega arith)

-- What two masks have in common is taken off the one.
pub minus_is : (mask other : ℕ) → mask < 2 ^ 64 → other < 2 ^ 64 → bit_xor mask (bit_and mask other) ≡ minus mask other
unfolding minus
minus_is mask other a b =
    mask_self 64 (bit_xor mask (bit_and mask other)) (xor_lt 64 mask (bit_and mask other) a (and_lt 64 mask other a b))
    ∙ mask_same _ _ 64 (λ j c. off mask other j)

pub minus_small : (mask other : ℕ) → minus mask other < 2 ^ 64
unfolding minus
minus_small mask other = mask_below _ 64

-- What is left is in the one and not in the other, and what is not left was not there or is in the other.
pub minus_from : (mask other j : ℕ) → in_mask (minus mask other) j ≡ true → in_mask mask j ≡ true
unfolding minus
minus_from mask other j e =
    let r = mask_says (λ i. in_mask mask i && not (in_mask other i)) j 64 refl (rw e tt) in
    T-eq (and_l (in_mask mask j) (not (in_mask other j)) (rw r.1 tt))

pub minus_gone : (mask other j : ℕ) → j < 64 → in_mask (minus mask other) j ≡ false → (in_mask mask j ≡ false) ⊎ (in_mask other j ≡ true)
unfolding minus
minus_gone mask other j b e = go (in_mask mask j) (in_mask other j) (sym (mask_has (λ i. in_mask mask i && not (in_mask other i)) 64 j ∙ rw (lt-ltb j 64 b)) ∙ e)
  where
    go : (x y : Bool) → (x && not y) ≡ false → (x ≡ false) ⊎ (y ≡ true)
    go true true f = inr refl
    go true false f = inr (sym f)
    go false y f = inl refl

-- It is less if there is something to take off.
mask_less : (f g : ℕ → Bool) (n k : ℕ) → k < n → ((j : ℕ) → T (f j) → T (g j)) → f k ≡ false → g k ≡ true → mask_of f n < mask_of g n
unfolding mask_of
mask_less f g zero k b sub x y = absurd (omega arith)
mask_less f g (suc n) k b sub x y = elim (lt_or_le k n) [ inl l ↦ more (f n) (g n) (sub n) (mask_less f g n k l sub x y) | inr l ↦ (let e : n ≡ k = omega arith in rw (ap f e ∙ x, ap g e ∙ y) (omega (arith, mask_below f n))) ]
  where
    more : (a b : Bool) → (T a → T b) → mask_of f n < mask_of g n → cond a (2 ^ n + mask_of f n) (mask_of f n) < cond b (2 ^ n + mask_of g n) (mask_of g n)
    more true true s r = omega arith
    more true false s r = absurd (s tt)
    more false true s r = omega arith
    more false false s r = r

pub minus_less : (mask other k : ℕ) → mask < 2 ^ 64 → k < 64 → in_mask mask k ≡ true → in_mask other k ≡ true → minus mask other < mask
unfolding minus
minus_less mask other k b few x y =
    let less = mask_less (λ j. in_mask mask j && not (in_mask other j)) (in_mask mask) 64 k few (λ j t. and_l (in_mask mask j) (not (in_mask other j)) t) (rw (x, y)) x in
    omega (arith, mask_self 64 mask b)

-- One number is always taken off with others.
pub taken_off : (k other : ℕ) → in_mask (bit_or (2 ^ k) other) k ≡ true
taken_off k other = either (2 ^ k) other k ∙ rw (alone_has k k, eq-eqb k k refl)

pub taken_off_with : (k a b : ℕ) → in_mask (bit_or (bit_or (2 ^ k) a) b) k ≡ true
taken_off_with k a b = either (bit_or (2 ^ k) a) b k ∙ rw (taken_off k a)
