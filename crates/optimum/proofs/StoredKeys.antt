-- What comparing and clipping stored keys gives, by the tests that a program makes.
use mathlib.Core.Path.{◌≡◌, refl, sym, ap}
use Prim.Native.Nat.{ℕ, suc, ◌+◌, ◌≤◌, ◌<◌}
use native.Mathlib.Omega.{arith}
use lib.IntN.{ℤ, pos, negsuc, ◌+ℤ◌}
use Rattle.std.proofs.lemmas.Int.{ints}
use Rattle.optimum.specs.Key.{Key, empty, ◌⊕◌, better}
use Rattle.optimum.specs.inner.Table.{stored}
use Rattle.optimum.proofs.Keys.{key_eq, ◌≼◌, more, same, better_left, better_right}

-- Stored keys are added number by number.
pub stored_add : (t m t' m' : ℕ) → stored t m ⊕ stored t' m' ≡ stored (t + t') (m + m')
unfolding ◌⊕◌
stored_add t m t' m' = refl

greater_total : (t m t' m' : ℕ) → t < t' → stored t m ≼ stored t' m'
greater_total t m t' m' h = more (omega (arith, ints))

equal_total : (t m t' m' : ℕ) → t ≡ t' → m' ≤ m → stored t m ≼ stored t' m'
equal_total t m t' m' e h = same (ap pos (sym e)) h

-- The second is taken if its total is greater.
pub take_greater : (t m t' m' : ℕ) → t < t' → better (stored t m) (stored t' m') ≡ stored t' m'
take_greater t m t' m' h = better_right (greater_total t m t' m' h)

-- The second is taken if the totals are equal and its mask is not greater.
pub take_equal : (t m t' m' : ℕ) → t ≡ t' → m' ≤ m → better (stored t m) (stored t' m') ≡ stored t' m'
take_equal t m t' m' e h = better_right (equal_total t m t' m' e h)

-- The first stays if its total is greater.
pub leave_less : (t m t' m' : ℕ) → t' < t → better (stored t m) (stored t' m') ≡ stored t m
leave_less t m t' m' h = better_left (greater_total t' m' t m h)

-- The first stays if the totals are equal and its mask is not greater.
pub leave_equal : (t m t' m' : ℕ) → t ≡ t' → m ≤ m' → better (stored t m) (stored t' m') ≡ stored t m
leave_equal t m t' m' e h = better_left (equal_total t' m' t m (sym e) h)

-- An item's key with a stored key, clipped at the empty chain.
module _ (s : ℤ) (b t m : ℕ) where
  abbrev sum : Key
  sum = record { total = s; mask = b } ⊕ stored t m

  -- The sum is taken if its total is above 0.
  pub clip_more : (n : ℕ) → s +ℤ pos t ≡ pos (suc n) → better empty sum ≡ stored (suc n) (b + m)
  unfolding empty ◌⊕◌
  clip_more n e = let q : sum ≡ stored (suc n) (b + m) = key_eq e refl in rw q (take_greater 0 0 (suc n) (b + m) (omega arith))

  -- The empty chain stays if the total is 0.
  pub clip_zero : s +ℤ pos t ≡ pos 0 → better empty sum ≡ stored 0 0
  unfolding empty ◌⊕◌
  clip_zero e = let q : sum ≡ stored 0 (b + m) = key_eq e refl in rw q (leave_equal 0 0 0 (b + m) refl (omega arith))

  -- The empty chain stays if the total is below 0.
  pub clip_less : (n : ℕ) → s +ℤ pos t ≡ negsuc n → better empty sum ≡ stored 0 0
  unfolding empty ◌⊕◌
  clip_less n e =
      let q : sum ≡ record { total = negsuc n; mask = b + m } = key_eq e refl in
      rw q (better_left (more (omega (arith, ints))))
