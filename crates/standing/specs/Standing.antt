-- The present seeds of a table in order, and how they stand to one another. Seeds are numbered from 0 here.
use Rattle.std.specs.Prelude.{◌≡◌, ℕ, ◌+◌, ◌*◌, ◌<◌, ◌≤◌, Bool, true, List, length, ℤ, slice_index}
use Rattle.tree.specs.Reading.{leaves_of}
use Rattle.tree.specs.declared.Tree.{Tree}
use Rattle.seed.specs.AreaList as seed
use Rattle.seed.specs.Seed.{last_pair}
use Rattle.seed.specs.declared.Pair.{Pair}
use Rattle.table.specs.Rows.{Row, row_in}
use Rattle.table.specs.Table.{rows_of, table_of, Kept}
use Rattle.optimum.specs.Key.{mask_of}
use Rattle.standing.specs.declared.Standing.{Standing}

-- The rank of seed i: by the q of its last pair, then by its number, which is below 64.
abbrev pub rank_in : List Row → ℕ → ℕ
rank_in rows i = (last_pair (row_in rows i).pairs).q * 64 + i

-- The number that a list has at k.
abbrev pub number_at : List ℕ → ℕ → ℕ
number_at numbers k = slice_index numbers k

-- The place of a number among the first m of a list.
pub record PlaceInList (numbers : List ℕ) (m i : ℕ) : Type 0 where
  pub at : ℕ
  pub below : at < m
  pub holds : number_at numbers at ≡ i

-- The pairs of the seed whose number a list has at k.
abbrev pub seed_at : List Row → List ℕ → ℕ → List Pair
seed_at rows numbers k = (row_in rows (number_at numbers k)).pairs

-- The present seeds of a table by rising rank, and for each the masks of those before it that stand left of it and under it.
pub record Stood (Q T : List ℕ) (rows : List Row) (s : Standing) : Type 0 where
  pub few : s.count ≤ length rows
  pub room_numbers : length s.numbers ≡ 64
  pub room_lefts : length s.lefts ≡ 64
  pub room_unders : length s.unders ≡ 64
  pub within : (k : ℕ) → k < s.count → number_at s.numbers k < length rows
  pub present : (k : ℕ) → k < s.count → (row_in rows (number_at s.numbers k)).present ≡ true
  pub rising : (j k : ℕ) → j < k → k < s.count → rank_in rows (number_at s.numbers j) < rank_in rows (number_at s.numbers k)
  pub listed : (i : ℕ) → i < length rows → (row_in rows i).present ≡ true → PlaceInList s.numbers s.count i
  pub left : (y : ℕ) → y < s.count → slice_index s.lefts y ≡ mask_of (λ x. seed.left Q T (seed_at rows s.numbers x) (seed_at rows s.numbers y)) y
  pub under : (y : ℕ) → y < s.count → slice_index s.unders y ≡ mask_of (λ x. seed.under Q T (seed_at rows s.numbers x) (seed_at rows s.numbers y)) y

-- These arrays hold a table that calls hand over, whatever its scores are.
pub record Handed (q t : Tree) (qs ts bounds : List ℕ) (present : List Bool) (seeds : ℕ) : Type 0 where
  pub scores : List ℤ
  pub kept : Kept q t (table_of qs ts bounds scores present seeds)

-- So the present seeds of the table in these arrays stand, whatever its scores are.
abbrev pub StoodIn : Tree → Tree → List ℕ → List ℕ → List ℕ → List Bool → ℕ → Standing → Type 0
StoodIn q t qs ts bounds present seeds s =
    (scores : List ℤ) → Kept q t (table_of qs ts bounds scores present seeds) → Stood (leaves_of q) (leaves_of t) (rows_of (table_of qs ts bounds scores present seeds)) s
