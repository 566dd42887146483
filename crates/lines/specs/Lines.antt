-- The printed lines (document 01, "Printed lines"), as lists of bytes.
use Rattle.std.specs.Prelude.{Bool, true, false, List, [], ◌∷◌, ◌++◌, ℕ, suc, ◌-◌, length, replicate, pos}
use Rattle.answer.specs.Answer.{Said, accepted, refused}
use Rattle.answer.specs.declared.Place.{Place}
use Rattle.answer.specs.declared.Place.TheVariants.{ByteInQ, ByteInT, Seed, Nothing}
use Rattle.write.specs.Decimal.{bytes, decimal}
use Rattle.decimal.specs.Score.{number_text}
use Rattle.lines.specs.declared.Lines.{Lines}

-- "score" and the total, which counts hundredths (document 02, a).
unfoldable pub score_line : ℕ → List ℕ
score_line total = bytes "score " ++ number_text (pos total) ++ bytes "\n"

-- A number with one space before it, if the chain has it.
unfoldable pub member : ℕ → Bool → List ℕ
member number true = bytes " " ++ decimal number
member number false = []

-- The numbers that a chain has, rising from this one.
unfoldable pub members : ℕ → List Bool → List ℕ
members number [] = []
members number (has ∷ chain) = member number has ++ members (suc number) chain

-- "chain" and the numbers rising, one space before each.
unfoldable pub chain_line : List Bool → List ℕ
chain_line chain = bytes "chain" ++ members 1 chain ++ bytes "\n"

-- The two lines of a result.
unfoldable pub result_lines : ℕ → List Bool → List ℕ
result_lines total chain = score_line total ++ chain_line chain

-- "Q" or "T" or "seed" with the place, if any, one space between.
unfoldable pub place_words : Place → List ℕ
place_words (ByteInQ at) = bytes " Q " ++ decimal at
place_words (ByteInT at) = bytes " T " ++ decimal at
place_words (Seed number) = bytes " seed " ++ decimal number
place_words Nothing = []

-- The one line of a refusal; what is accepted has none.
unfoldable pub refusal_line : Said → List ℕ
refusal_line accepted = []
refusal_line (refused number place) = bytes "refused " ++ decimal number ++ place_words place ++ bytes "\n"

-- How many bytes hold every report.
abbrev pub lines_room : ℕ
lines_room = 256

-- Lines in an array of so many bytes, with zeros behind them.
unfoldable pub printed : List ℕ → Lines
printed line = record { bytes = line ++ replicate (lines_room - length line) 0; length = length line }
