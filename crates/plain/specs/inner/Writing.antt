-- The size and the parts of a deck that is written.
use Rattle.std.specs.Prelude.{cond, ℕ, ◌+◌, length, ltb}
use mathlib.Core.List.{List, map, flatten}
use Rattle.table.specs.Rows.{Row}
use Rattle.deck.specs.Deck.{PairRecord, chains_of}
use Rattle.plain.specs.Plain.{seed_bytes, pair_bytes, plain_seeds}
use Rattle.plain.specs.declared.size.Size.{Size}

-- How many seeds and pairs these are.
abbrev pub size_of : List Row → Size
size_of rows = record { seeds = length rows; pairs = length (flatten (chains_of rows)) }

-- The index after that of place i of a chain of n records from number k on.
abbrev pub next_of : ℕ → ℕ → ℕ → ℕ
next_of k i n = cond (ltb (i + 1) n) (k + i + 1) 0

-- The bytes of the seed records and of the pair records in plain form.
unfoldable pub seed_part : List Row → List ℕ
seed_part rows = flatten (map seed_bytes (plain_seeds 1 rows))

unfoldable pub pair_part : List PairRecord → List ℕ
pair_part records = flatten (map pair_bytes records)
