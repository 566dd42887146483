-- Numbers with their signs, as the code works them out.
use mathlib.Core.Path.{◌≡◌, refl}
use mathlib.Core.Bool.{Bool, true, false, ◌||◌}
use Prim.Native.Nat.{ℕ, zero, suc, ◌≤◌, ◌<◌}
use native.Mathlib.Omega.{arith}
use lib.Dec.{ltb}
use lib.IntN.{ℤ, pos, negsuc, neg_ℤ, nat_abs}
use mir.Syntax.{w32}
use mir.Val.{SFits}
use borrow.Author.Tests.{ltb-false, le-ltb}
use Rattle.decimal.specs.Score.{signed_number, beyond}

-- 0 less a number of hundredths.
negative_fits : (n : ℕ) → n < 20000000 → SFits w32 (neg_ℤ (pos n))
negative_fits zero h = record { sfits = omega arith }
negative_fits (suc n) h = record { sfits = omega arith }

pub signed_fits : (minus : Bool) (n : ℕ) → n < 20000000 → SFits w32 (signed_number minus n)
signed_fits true n h = negative_fits n h
signed_fits false n h = record { sfits = omega arith }

-- A number that is not beyond, without its sign.
or_left : (a b : Bool) → (a || b) ≡ false → a ≡ false
or_left true b e = e
or_left false b e = refl

pub size_few : (z : ℤ) → beyond z ≡ false → nat_abs z ≤ 64000000
unfolding beyond
size_few (pos n) e = ltb-false 64000000 n e
size_few (negsuc n) e = omega (arith, ltb-false 63999999 n (or_left (ltb 63999999 n) false e))

-- A total is not beyond.
pub total_within : (n : ℕ) → n ≤ 64000000 → beyond (pos n) ≡ false
unfolding beyond
total_within n h = le-ltb 64000000 n h
