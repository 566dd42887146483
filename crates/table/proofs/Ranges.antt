-- How large a score in range is.
use mathlib.Core.Path.{◌≡◌}
use mathlib.Core.Bool.{true}
use Prim.Native.Nat.{◌≤◌}
use native.Mathlib.Omega.{arith}
use lib.IntN.{ℤ, pos, negsuc, nat_abs}
use lib.Signed.{le_z, ◌≤ℤ◌, le_z_yes}
use borrow.Author.Tests.{leb-true}
use Rattle.answer.proofs.Tells.{both_true}
use Rattle.table.specs.Rows.{in_range}

pub range_most : (z : ℤ) → in_range z ≡ true → z ≤ℤ pos 1000000
unfolding in_range
range_most z e = le_z_yes (rw (both_true (le_z (negsuc 999999) z) (le_z z (pos 1000000)) e).1 tt)

pub range_size : (z : ℤ) → in_range z ≡ true → nat_abs z ≤ 1000000
unfolding in_range
range_size (pos n) e = leb-true n 1000000 e
range_size (negsuc n) e = omega (arith, leb-true n 999999 (both_true (le_z (negsuc 999999) (negsuc n)) true e).0)
