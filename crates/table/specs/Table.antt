-- The rows that a table's arrays hold, and the tables that calls hand over.
use Rattle.std.specs.Prelude.{◌≡◌, Bool, true, false, List, ℕ, ◌+◌, ◌-◌, ◌≤◌, ◌<◌, length, get_or, take, drop, replicate, ℤ, pos}
use Rattle.tree.specs.Reading.{IsTree}
use Rattle.tree.specs.declared.Tree.{Tree}
use Rattle.seed.specs.Tab.{tab}
use Rattle.seed.specs.Pairs.{pairs_of}
use Rattle.seed.specs.declared.Pair.{Pair}
use Rattle.table.specs.Rows.{Row, AllHold}
use Rattle.table.specs.declared.Table.{Table}

-- The numbers of a list from one place up to another.
unfoldable pub between : List ℕ → ℕ → ℕ → List ℕ
between xs from to = take (to - from) (drop from xs)

-- The nodes of the seed at place i in one tree, from the array of nodes and that of bounds.
unfoldable pub nodes_of : List ℕ → List ℕ → ℕ → List ℕ
nodes_of nodes bounds i = between nodes (get_or bounds i 0) (get_or bounds (i + 1) 0)

-- Its pairs, and its row.
unfoldable pub pairs_at : Table → ℕ → List Pair
pairs_at t i = pairs_of (nodes_of t.qs t.bounds i) (nodes_of t.ts t.bounds i)

unfoldable pub row_at : Table → ℕ → Row
row_at t i = record { pairs = pairs_at t i; score = get_or t.scores i (pos 0); present = get_or t.present i false }

-- Document 01's table: the row of each seed given out, by number.
unfoldable pub rows_of : Table → List Row
rows_of t = tab t.seeds (row_at t)

-- A table whose arrays are filled: at most 64 seeds, each with a pair at least, and at most 1,024 pairs in all.
pub record Laid (t : Table) : Type 0 where
  pub few : t.seeds ≤ 64
  pub fit : t.pairs ≤ 1024
  pub first : get_or t.bounds 0 0 ≡ 0
  pub last : get_or t.bounds t.seeds 0 ≡ t.pairs
  pub rising : (i : ℕ) → i < t.seeds → get_or t.bounds i 0 < get_or t.bounds (i + 1) 0
  pub within : (i : ℕ) → i ≤ t.seeds → get_or t.bounds i 0 ≤ t.pairs
  pub room_q : length t.qs ≡ 1024
  pub room_t : length t.ts ≡ 1024
  pub room_bounds : length t.bounds ≡ 65
  pub room_scores : length t.scores ≡ 64
  pub room_present : length t.present ≡ 64

-- A table that calls hand over: filled, and its rows were judged seeds on two trees that were read.
pub record Kept (q t : Tree) (table : Table) : Type 0 where
  pub is_q : IsTree q
  pub is_t : IsTree t
  pub laid : Laid table
  pub each : AllHold q t (rows_of table)

-- The table that lies in these arrays: where its last seed ends, there its pairs do.
abbrev pub table_of : List ℕ → List ℕ → List ℕ → List ℤ → List Bool → ℕ → Table
table_of qs ts bounds scores present seeds = record { seeds = seeds; pairs = get_or bounds seeds 0; qs = qs; ts = ts; bounds = bounds; scores = scores; present = present }

-- The table without seeds.
abbrev pub no_seeds : Table
no_seeds = record { seeds = 0; pairs = 0; qs = replicate 1024 0; ts = replicate 1024 0; bounds = replicate 65 0; scores = replicate 64 (pos 0); present = replicate 64 true }

-- A table that was handed over with these rows.
pub record HasRows (rows : List Row) (t : Table) : Type 0 where
  pub is : rows_of t ≡ rows
  pub laid : Laid t
