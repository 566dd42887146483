-- Parts of inputs and judged memory, computed from the definitions.
use mathlib.Core.Path.{◌≡◌, refl}
use mathlib.Core.Bool.{true, false}
use mathlib.Core.List.{List, [], ◌∷◌}
use Prim.Native.Nat.{ℕ}
use Prim.Native.String.{String}
use lib.ListN.{replicate}
use Rattle.std.specs.Prelude.{Ok, Err}
use Rattle.answer.specs.Refusal.{refusal_at}
use Rattle.answer.specs.declared.Ground.TheVariants.{ScratchShort}
use Rattle.answer.specs.declared.Place.TheVariants.{Nothing}
use Rattle.write.specs.Decimal.{bytes}
use Rattle.lines.specs.Lines.{printed}
use Rattle.report.specs.Input.{read_bytes, ahead, behind, text_q, text_t, deck_bytes}
use Rattle.report.specs.Report.{lines_of, report_of, memory_short}

-- Q, T and the deck of an input.
abbrev parts_of : String → List (List ℕ)
parts_of input = text_q (bytes input) ∷ text_t (bytes input) ∷ deck_bytes (bytes input) ∷ []

-- With both line feeds and one more in the deck, with one, and with none.
pub inputs_parted :
    parts_of "(.)\n..\na\n" ∷ parts_of "(.)\n.." ∷ parts_of "(.)" ∷ []
    ≡ (bytes "(.)" ∷ bytes ".." ∷ bytes "a\n" ∷ []) ∷ (bytes "(.)" ∷ bytes ".." ∷ [] ∷ []) ∷ (bytes "(.)" ∷ [] ∷ [] ∷ []) ∷ []
unfolding read_bytes ahead behind
inputs_parted = refl

-- Lent memory judged, whatever the input: a number of scratch too few and just enough.
pub rooms_judged : (input : List ℕ) → report_of input 255 ∷ report_of input 256 ∷ [] ≡ Err (refusal_at ScratchShort Nothing) ∷ Ok (printed (lines_of input)) ∷ []
unfolding report_of
rooms_judged input = refl

-- For C and Rust: a byte of output too few, a number of scratch too few, and just enough.
pub outputs_judged : memory_short (replicate 256 0) (replicate 255 0) ∷ memory_short (replicate 255 0) (replicate 256 0) ∷ memory_short (replicate 256 0) (replicate 256 0) ∷ [] ≡ true ∷ true ∷ false ∷ []
unfolding memory_short
outputs_judged = refl
