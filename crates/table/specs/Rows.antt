-- The table of document 01 ("The history"): one row for each seed number given out, from 1 up.
use Rattle.std.specs.Prelude.{◌≡◌, Bool, true, false, cond, ◌&&◌, List, [], ◌∷◌, ℕ, ◌+◌, ◌-◌, ◌<◌, length, get_or, set, ℤ, pos, negsuc, leb}
use Rattle.std.specs.Int.Signed.{le_z}
use Rattle.tree.specs.declared.Tree.{Tree}
use Rattle.seed.specs.Seed.{Seed, last_pair}
use Rattle.seed.specs.declared.Pair.{Pair}
use Rattle.table.specs.declared.Summary.{Summary}

-- A row: the seed's pairs, its score, and whether it is present or withdrawn.
pub record Row : Type 0 where
  pub pairs : List Pair
  pub score : ℤ
  pub present : Bool

-- A row with these pairs and this score, present as it is when added or read from a deck.
abbrev pub new_row : List Pair → ℤ → Row
new_row ps z = record { pairs = ps; score = z; present = true }

-- A seed number was given out: it is one of 1 to so many seeds.
unfoldable pub given_out : ℕ → ℕ → Bool
given_out seeds k = leb 1 k && leb k seeds

-- The row at a place of the list, counted from 0, and what stands for one where there is none.
abbrev pub no_row : Row
no_row = record { pairs = []; score = pos 0; present = false }

abbrev pub row_in : List Row → ℕ → Row
row_in rows i = get_or rows i no_row

-- The row of number k, which counts from 1, and the rows with another one there.
unfoldable pub row_of : List Row → ℕ → Row
row_of rows k = row_in rows (k - 1)

unfoldable pub with_row : List Row → ℕ → Row → List Row
with_row rows k row = set rows (k - 1) row

-- A row with another score, and with another presence.
abbrev pub with_score : Row → ℤ → Row
with_score r z = record { pairs = r.pairs; score = z; present = r.present }

abbrev pub with_presence : Row → Bool → Row
with_presence r b = record { pairs = r.pairs; score = r.score; present = b }

-- The pairs of a row, and how many the rows have in all, withdrawn seeds included.
abbrev pub pairs_of_row : Row → List Pair
pairs_of_row r = r.pairs

unfoldable pub pairs_in_all : List Row → ℕ
pairs_in_all [] = 0
pairs_in_all (r ∷ rs) = length r.pairs + pairs_in_all rs

-- The rows of the present seeds, by number.
unfoldable pub present_rows : List Row → List Row
present_rows [] = []
present_rows (r ∷ rs) = cond r.present (r ∷ present_rows rs) (present_rows rs)

-- What a row says without listing its pairs: its score, its last pair, how many pairs it has, and its presence.
abbrev pub summary_of : Row → Summary
summary_of r = record { score = r.score; last = last_pair r.pairs; pairs = length r.pairs; present = r.present }

-- A score is −1,000,000 to 1,000,000.
unfoldable pub in_range : ℤ → Bool
in_range z = le_z (negsuc 999999) z && le_z z (pos 1000000)

-- A row that holds a seed of two trees, with a score in range.
pub record Holds (q t : Tree) (r : Row) : Type 0 where
  pub seed : Seed q t r.pairs
  pub ranged : in_range r.score ≡ true

-- Each of the rows does.
abbrev pub AllHold : Tree → Tree → List Row → Type 0
AllHold q t rows = (i : ℕ) → i < length rows → Holds q t (row_in rows i)
