-- What writing to a lent output promises (ground 22): the bytes whole or nothing, and no byte beyond.
use Rattle.std.specs.Prelude.{◌≡◌, cond, List, ◌++◌, ℕ, length, drop, leb, Result, Ok, Err}
use Rattle.answer.specs.Refusal.{refusal_at}
use Rattle.answer.specs.declared.Refusal.{Refusal}
use Rattle.answer.specs.declared.Ground.TheVariants.{OutputShort}
use Rattle.answer.specs.declared.Place.TheVariants.{Nothing}

-- "The output is shorter than what is to be written": the length of the bytes is answered, or ground 22 without a place.
unfoldable pub written_of : List ℕ → ℕ → Result ℕ Refusal
written_of bytes room = cond (leb (length bytes) room) (Ok (length bytes)) (Err (refusal_at OutputShort Nothing))

-- "Touches no byte beyond": the output with these bytes at its start, and as it was beyond them.
abbrev pub with_bytes : List ℕ → List ℕ → List ℕ
with_bytes bytes out = bytes ++ drop (length bytes) out

-- All of it as it was where there is not room.
unfoldable pub output_of : List ℕ → List ℕ → List ℕ
output_of bytes out = cond (leb (length bytes) (length out)) (with_bytes bytes out) out

-- What writing these bytes promises, of its result and of the output before and after.
pub record Wrote (bytes before after : List ℕ) (r : Result ℕ Refusal) : Type 0 where
  pub answers : r ≡ written_of bytes (length before)
  pub leaves : after ≡ output_of bytes before
