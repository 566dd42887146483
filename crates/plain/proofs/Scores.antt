-- Scores in two's complement turn back, and the bytes of numbers.
use mathlib.Core.Path.{◌≡◌, refl, ap, ◌∙◌}
use mathlib.Core.List.{[], ◌∷◌}
use Prim.Native.Nat.{ℕ, ◌-◌, ◌/◌, ◌%◌, ◌<◌}
use native.Mathlib.Omega.{arith}
use lib.IntN.{ℤ, pos, negsuc}
use lib.Signed.{mag}
use mir.Syntax.{w16, w32}
use Rattle.std.specs.Int.{to_be_bytes, cast_unsigned}
use Rattle.deck.specs.Deck.{signed}
use Rattle.plain.specs.Plain.{unsigned, bytes16, bytes32}
use Rattle.deck.proofs.Numbers.{signed_low, signed_high}

pub signed_unsigned : (z : ℤ) → mag z < 2147483648 → signed (unsigned z) ≡ z
unfolding unsigned
signed_unsigned (pos n) h = signed_low n h
signed_unsigned (negsuc n) h = signed_high (4294967295 - n) (omega arith) ∙ ap negsuc (omega arith)

pub unsigned_below : (z : ℤ) → mag z < 2147483648 → unsigned z < 4294967296
unfolding unsigned
unsigned_below (pos n) h = omega arith
unsigned_below (negsuc n) h = omega arith

-- What std makes of numbers is these bytes.
pub be_bytes16 : (n : ℕ) → n < 65536 → to_be_bytes w16 n ≡ bytes16 n
unfolding bytes16
be_bytes16 n h = let high : n / 256 % 256 ≡ n / 256 = omega arith in λ j. high j ∷ n % 256 ∷ []

be_bytes32 : (n : ℕ) → n < 4294967296 → to_be_bytes w32 n ≡ bytes32 n
unfolding bytes32 bytes16
be_bytes32 n h =
    let a : n / 16777216 % 256 ≡ n / 65536 / 256 = omega arith in
    let b : n / 65536 % 256 ≡ n / 65536 % 256 = refl in
    let c : n / 256 % 256 ≡ n % 65536 / 256 = omega arith in
    let d : n % 256 ≡ n % 65536 % 256 = omega arith in
    λ j. a j ∷ b j ∷ c j ∷ d j ∷ []

bits : (z : ℤ) → mag z < 2147483648 → cast_unsigned w32 z ≡ unsigned z
unfolding unsigned
bits (pos n) h = refl
bits (negsuc n) h = omega arith

pub be_score : (z : ℤ) → mag z < 2147483648 → to_be_bytes w32 (cast_unsigned w32 z) ≡ bytes32 (unsigned z)
be_score z h = ap (to_be_bytes w32) (bits z h) ∙ be_bytes32 (unsigned z) (unsigned_below z h)
