-- Numbers in decimal and what is written, computed from the definitions.
use mathlib.Core.Path.{◌≡◌, refl}
use mathlib.Core.List.{List, [], ◌∷◌}
use Prim.Native.Nat.{ℕ}
use Rattle.std.specs.Prelude.{Ok, Err}
use Rattle.answer.specs.Refusal.{refusal_at}
use Rattle.answer.specs.declared.Ground.TheVariants.{OutputShort}
use Rattle.answer.specs.declared.Place.TheVariants.{Nothing}
use Rattle.write.specs.Decimal.{bytes, digits, decimal}
use Rattle.write.specs.Puts.{put_of, behind_of}
use Rattle.write.specs.Wrote.{written_of, output_of}

pub numbers_written : decimal 0 ∷ decimal 10 ∷ decimal 909 ∷ decimal 18446744073709551615 ∷ [] ≡ bytes "0" ∷ bytes "10" ∷ bytes "909" ∷ bytes "18446744073709551615" ∷ []
unfolding digits
numbers_written = refl

-- Two bytes into three from the second place on, and from the third on, where they do not fit.
abbrev room : List ℕ
room = 7 ∷ 8 ∷ 9 ∷ []

pub words_put : put_of (bytes "ab") 1 room ∷ put_of (bytes "ab") 2 room ∷ [] ≡ (7 ∷ 97 ∷ 98 ∷ []) ∷ room ∷ []
unfolding put_of
words_put = refl

pub places_behind : behind_of (bytes "ab") 1 3 ∷ behind_of (bytes "ab") 2 3 ∷ [] ≡ 3 ∷ 2 ∷ []
unfolding behind_of
places_behind = refl

pub outputs_written : output_of (bytes "ab") room ∷ output_of (bytes "abcd") room ∷ [] ≡ (97 ∷ 98 ∷ 9 ∷ []) ∷ room ∷ []
unfolding output_of
outputs_written = refl

pub rooms_judged : written_of (bytes "abc") 3 ∷ written_of (bytes "abc") 2 ∷ [] ≡ Ok 3 ∷ Err (refusal_at OutputShort Nothing) ∷ []
unfolding written_of
rooms_judged = refl
