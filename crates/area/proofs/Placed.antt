-- The areas of the seed at a place of a table, and of no seed: none.
use Rattle.std.proofs.Common.{Result, Ok}
use mathlib.Core.Path.{◌≡◌, refl, subst}
use mathlib.Core.Bool.{Bool, true, false, ◌&&◌}
use mathlib.Core.List.{List, [], flat_map}
use Prim.Native.Nat.{ℕ, zero, suc, ◌≤◌, ◌<◌}
use native.Mathlib.Omega.{arith}
use lib.ListN.{length, get_or}
use borrow.Author.Tests.{le-ltb}
use Rattle.tree.specs.Reading.{leaves_of}
use Rattle.tree.specs.declared.Tree.{Tree}
use Rattle.seed.specs.Pairs.{pairs_of, Held}
use Rattle.seed.specs.Tests.{above}
use Rattle.seed.specs.AreaList.{fits, first_below, begins, box_row, boxes, areas, bytes_of}
use Rattle.seed.specs.declared.Pair.{Pair}
use Rattle.table.specs.Rows.{no_row}
use Rattle.table.specs.Table.{nodes_of, pairs_at, row_at, rows_of, Kept}
use Rattle.table.specs.declared.Table.{Table}
use Rattle.table.proofs.Tables.{rows_length, row_there, row_past}
use Rattle.area.specs.PaperOrder.{areas_in_paper_order, areas_by}
use Rattle.area.specs.Listed.{ListedRight}
use Rattle.answer.specs.declared.Refusal.{Refusal}
use Rattle.area.specs.declared.Order.{Order}
use Rattle.area.specs.declared.Order.TheVariants.{RisingA, Paper}
use Rattle.area.proofs.AreaSteps.{list_accepted}

-- ---- no seed

module _ (F : ℕ → ℕ → Bool) (never : (i j : ℕ) → F i j ≡ false) (n m : ℕ) where
  none_below : (a k : ℕ) → first_below (F a) k ≡ k
  unfolding first_below
  none_below a zero = refl
  none_below a (suc k) = rw (none_below a k, le-ltb k k (omega arith), never a k)

  no_boxes : (k : ℕ) → boxes F n m k ≡ []
  unfolding boxes box_row begins
  no_boxes zero = refl
  no_boxes (suc a) = rw (no_boxes a, none_below a m, le-ltb m m (omega arith))

not_both : (b : Bool) → (b && false) ≡ false
not_both true = refl
not_both false = refl

-- The last pair of no pairs is that of the nodes 0, which have nothing below them.
nothing_fits : (Q T : List ℕ) (i j : ℕ) → fits Q T [] i j ≡ false
unfolding fits above
nothing_fits Q T i j = rw (le-ltb i 0 (omega arith), not_both)

no_areas : (order : Order) (Q T : List ℕ) → areas_by order Q T [] ≡ []
unfolding areas_by areas areas_in_paper_order flat_map
no_areas RisingA Q T = no_boxes (fits Q T []) (nothing_fits Q T) (length Q) (length T) (length Q)
no_areas Paper Q T = refl

pub listed_none : (q t : Tree) (table : Table) (at : ℕ) (order : Order) (out : List ℕ) → table.seeds ≤ at → ListedRight (areas_by order (leaves_of q) (leaves_of t) (get_or (rows_of table) at no_row).pairs) out (Ok 0) out
unfolding bytes_of
listed_none q t table at order out l = rw (row_past table at l, no_areas order (leaves_of q) (leaves_of t)) (list_accepted [] out 0 refl out (omega arith) refl)

-- ---- the seed at a place

module _ (q t : Tree) (table : Table) (at : ℕ) (h : Kept q t table) (l : at < table.seeds) {a b : List ℕ} (is-a : a ≡ nodes_of table.qs table.bounds at) (is_b : b ≡ nodes_of table.ts table.bounds at) where
  pairs_are : pairs_of a b ≡ (get_or (rows_of table) at no_row).pairs
  unfolding row_at pairs_at
  pairs_are = rw (is-a, is_b, row_there table at l)

  pub held_there : Held q t (pairs_of a b)
  held_there = record { is_q = h.is_q; is_t = h.is_t; seed = rw pairs_are (h.each at (omega (arith, rows_length table))).seed }

  pub listed_there : (order : Order) {before after : List ℕ} {r : Result ℕ Refusal} → ListedRight (areas_by order (leaves_of q) (leaves_of t) (pairs_of a b)) before r after → ListedRight (areas_by order (leaves_of q) (leaves_of t) (get_or (rows_of table) at no_row).pairs) before r after
  listed_there order {before} {after} {r} w = subst (λ (ps : List Pair). ListedRight (areas_by order (leaves_of q) (leaves_of t) ps) before r after) pairs_are w
