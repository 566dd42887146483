-- The text of a number: how long it is, and how it lies in its array.
use mathlib.Core.Path.{◌≡◌, refl, ap, ◌∙◌}
use mathlib.Core.Bool.{Bool, true, false}
use mathlib.Core.List.{List}
use Prim.Native.Nat.{ℕ, ◌+◌, ◌-◌, ◌/◌, ◌≤◌}
use native.Mathlib.Omega.{arith}
use lib.ListN.{length, take, replicate, length-append}
use lib.Seq.{take_at}
use lib.IntN.{ℤ, pos, negsuc, nat_abs}
use lib.Signed.{lt_z}
use borrow.Author.Tests.{le-ltb}
use Rattle.write.specs.Decimal.{decimal}
use Rattle.write.proofs.Decimals.{length_decimal}
use Rattle.decimal.specs.Score.{two_digits, unsigned_text, number_text}
use Rattle.decimal.specs.inner.Texts.{signed_text, text_room, text_laid}
use Rattle.decimal.specs.declared.text.NumberText.{NumberText}

pub length_unsigned : (n : ℕ) → length (unsigned_text n) ≡ length (decimal (n / 100)) + 3
unfolding unsigned_text two_digits
length_unsigned n = simp length-append (omega arith)

pub length_signed : (minus : Bool) (n : ℕ) → length (signed_text minus n) ≤ text_room
unfolding signed_text
length_signed true n = omega (arith, length_unsigned n, length_decimal (n / 100))
length_signed false n = omega (arith, length_unsigned n, length_decimal (n / 100))

pub length_total : (n : ℕ) → length (number_text (pos n)) ≤ text_room
unfolding number_text
length_total n = omega (arith, length_unsigned n, length_decimal (n / 100))

-- A text read back from its array.
module _ (text : List ℕ) {laid : NumberText} (is : laid ≡ text_laid text) where
  pub laid_length : laid.length ≡ length text
  unfolding text_laid
  laid_length = ap (λ (x : NumberText). x.length) is

  pub laid_fits : laid.length ≤ length laid.bytes
  unfolding text_laid
  laid_fits = rw is (omega (arith, length-append text (replicate (text_room - length text) 0)))

  pub laid_bytes : take laid.length laid.bytes ≡ text
  unfolding text_laid
  laid_bytes = ap (λ (x : NumberText). take x.length x.bytes) is ∙ take_at text (replicate (text_room - length text) 0) (length text) refl

-- The text by sign and size is that of the number.
pub number_text_lem : (z : ℤ) → signed_text (lt_z z (pos 0)) (nat_abs z) ≡ number_text z
unfolding signed_text number_text
number_text_lem (pos n) = rw (le-ltb n 0 (omega arith))
number_text_lem (negsuc n) = refl
