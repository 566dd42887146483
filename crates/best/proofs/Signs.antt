-- A score and a total, added with their signs: the key of a seed with the chain under it, clipped at the empty chain.
use mathlib.Core.Path.{◌≡◌, refl, sym, ap, ap₂, ◌∙◌}
use mathlib.Core.Bool.{Bool, true, false, cond, false≢true, true≢false}
use Prim.Native.Nat.{ℕ, zero, suc, ◌+◌, ◌-◌, ◌≤◌}
use native.Mathlib.Omega.{arith}
use borrow.Author.Tests.{lt-ltb}
use lib.Dec.{T, ltb}
use lib.IntN.{ℤ, pos, negsuc, nat_abs, ◌+ℤ◌}
use lib.Signed.{mag, lt_z, non_neg}
use mir.Syntax.{w32, w64}
use mir.Val.{SFits, Fits, to_z, of_z}
use mir.Facts.{to_z-of_z, to_z_pos, sfits_widen, Fits-nat_abs}
use Rattle.optimum.specs.Key.{empty, ◌⊕◌, better}
use Rattle.optimum.specs.inner.Table.{stored}
use Rattle.optimum.proofs.StoredKeys.{clip_more, clip_zero, clip_less}

mag_by : (a b : ℕ) (t : Bool) → ltb a (suc b) ≡ t → mag (cond t (negsuc (suc b - suc a)) (pos (a - suc b))) ≤ a + b
mag_by a b true e = omega arith
mag_by a b false e = omega arith

mag_add : (z : ℤ) (n : ℕ) → mag (z +ℤ pos n) ≤ mag z + n
mag_add (pos m) n = omega arith
mag_add (negsuc m) n = omega (arith, mag_by n m _ refl)

module _ (z : ℤ) (n : ℕ) (f : SFits w32 z) (h : n ≤ 64000000) where
  pub sum_fits : SFits w64 (z +ℤ pos n)
  sum_fits = record { sfits = omega (arith, mag_add z n, f.sfits) }

  -- What the machine adds is the score and the total.
  pub sum_plain : to_z w64 (of_z w64 (to_z w32 (of_z w32 z))) +ℤ to_z w64 n ≡ z +ℤ pos n
  sum_plain = ap₂ ◌+ℤ◌ (ap (λ (x : ℤ). to_z w64 (of_z w64 x)) (to_z-of_z f) ∙ to_z-of_z {w = w64} (sfits_widen {w = w32} {w' = w64} tt f)) (to_z_pos w64 (omega arith))

  pub sum_back : to_z w64 (of_z w64 (to_z w64 (of_z w64 (to_z w32 (of_z w32 z))) +ℤ to_z w64 n)) ≡ z +ℤ pos n
  sum_back = ap (λ (x : ℤ). to_z w64 (of_z w64 x)) sum_plain ∙ to_z-of_z sum_fits

positive : (z : ℤ) → lt_z (pos 0) z ≡ true → (n : ℕ) × (z ≡ pos (suc n))
positive (pos zero) e = absurd (false≢true e)
positive (pos (suc n)) e = (n, refl)
positive (negsuc n) e = absurd (false≢true e)

-- A sum above 0 is a natural number that fits.
pub sum_natural : (z : ℤ) → SFits w64 z → lt_z (pos 0) z ≡ true → T (non_neg z) × Fits w64 (nat_abs z)
sum_natural z f h = let p = positive z h in (rw p.1 tt, Fits-nat_abs tt f)

-- The two outcomes of the test.
module _ (s : ℤ) (b t m : ℕ) (z : ℤ) (e : z ≡ s +ℤ pos t) where
  pub clip_taken : lt_z (pos 0) z ≡ true → stored (nat_abs z) (b + m) ≡ better empty (record { total = s; mask = b } ⊕ stored t m)
  clip_taken h = let p = positive z h in rw p.1 (sym (clip_more s b t m p.0 (sym e ∙ p.1)))

  clip_at : (y : ℤ) → y ≡ s +ℤ pos t → lt_z (pos 0) y ≡ false → stored 0 0 ≡ better empty (record { total = s; mask = b } ⊕ stored t m)
  clip_at (pos zero) q h = sym (clip_zero s b t m (sym q))
  clip_at (pos (suc n)) q h = absurd (true≢false (sym (lt-ltb 0 (suc n) (omega arith)) ∙ h))
  clip_at (negsuc n) q h = sym (clip_less s b t m n (sym q))

  pub clip_left : lt_z (pos 0) z ≡ false → stored 0 0 ≡ better empty (record { total = s; mask = b } ⊕ stored t m)
  clip_left h = clip_at z e h
