-- Rows that hold seeds, with one row more and with another row at one place; and the table with that row.
use mathlib.Core.List.{List, [], ◌∷◌, ◌++◌}
use Prim.Native.Nat.{ℕ, zero, suc, ◌<◌}
use native.Mathlib.Omega.{arith}
use lib.ListN.{length, set}
use Rattle.tree.specs.declared.Tree.{Tree}
use Rattle.table.specs.Rows.{Row, Holds, AllHold}
use Rattle.table.specs.Table.{rows_of, Kept, HasRows}
use Rattle.table.specs.declared.Table.{Table}

module _ (q t : Tree) where
  pub all_more : (rows : List Row) (r : Row) → AllHold q t rows → Holds q t r → AllHold q t (rows ++ r ∷ [])
  all_more [] r h k zero l = k
  all_more [] r h k (suc i) l = absurd (omega arith)
  all_more (x ∷ rows) r h k zero l = h zero (omega arith)
  all_more (x ∷ rows) r h k (suc i) l = all_more rows r (λ j m. h (suc j) (omega arith)) k i (omega arith)

  pub all_set : (rows : List Row) (k : ℕ) (r : Row) → AllHold q t rows → (k < length rows → Holds q t r) → AllHold q t (set rows k r)
  all_set [] k r h new i l = absurd (omega arith)
  all_set (x ∷ rows) zero r h new zero l = new (omega arith)
  all_set (x ∷ rows) zero r h new (suc i) l = h (suc i) l
  all_set (x ∷ rows) (suc k) r h new zero l = h zero (omega arith)
  all_set (x ∷ rows) (suc k) r h new (suc i) l = all_set rows k r (λ j m. h (suc j) (omega arith)) (λ m. new (omega arith)) i (omega arith)

pub kept_set : (q t : Tree) (table next : Table) (k : ℕ) (row : Row) → Kept q t table → HasRows (set (rows_of table) k row) next → (k < length (rows_of table) → Holds q t row) → Kept q t next
kept_set q t table next k row h n new =
    record { is_q = h.is_q; is_t = h.is_t; laid = n.laid; each = rw n.is (all_set q t (rows_of table) k row h.each new) }
