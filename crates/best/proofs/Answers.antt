-- What the call answers: the refusal, and the best chain of a table's seeds by the table on the scratch.
use mathlib.Core.Path.{◌≡◌, sym, ap}
use mathlib.Core.Bool.{Bool, true, false}
use mathlib.Core.List.{List}
use Prim.Native.Nat.{ℕ, ◌≤◌, ◌<◌}
use native.Mathlib.Omega.{arith}
use lib.Dec.{ltb}
use lib.IntN.{pos}
use lib.ListN.{length, replicate}
use lib.Signed.{◌≤ℤ◌}
use Rattle.std.proofs.Common.{Ok, Err}
use Rattle.answer.specs.Refusal.{refusal_at}
use Rattle.answer.specs.declared.Ground.TheVariants.{ScratchShort}
use Rattle.answer.specs.declared.Place.TheVariants.{Nothing}
use Rattle.tree.specs.Reading.{leaves_of}
use Rattle.tree.specs.declared.Tree.{Tree}
use Rattle.tree.proofs.Trees.{tree_nested}
use Rattle.seed.specs.Seed.{Pattern}
use Rattle.seed.specs.Tab.{tab}
use Rattle.table.specs.Rows.{Row, row_in}
use Rattle.table.specs.Table.{row_at, rows_of, Kept}
use Rattle.table.specs.declared.Table.{Table}
use Rattle.table.proofs.Tables.{rows_length, row_there}
use Rattle.table.proofs.Ranges.{range_most}
use Rattle.optimum.specs.Key.{in_mask}
use Rattle.optimum.specs.inner.Table.{stored}
use Rattle.optimum.specs.inner.Table as optimum
use Rattle.standing.specs.Standing.{Stood}
use Rattle.best.specs.Best.{key_of, scratch_needed, best_of, scratch_after, Answered}
use Rattle.best.specs.inner.Scratch.{score_by, items_of, Posed}
use Rattle.standing.specs.declared.Standing.{Standing}
use Rattle.best.proofs.Listing.{posed, key_is}

module _ (q t : Tree) (table : Table) where
  pub best_refused : (xs : List ℕ) → ltb (length xs) scratch_needed ≡ true → Answered q t table xs xs (Err (refusal_at ScratchShort Nothing))
  unfolding best_of scratch_after
  best_refused xs short = record { answer = rw short; scratch = rw short }

  pub best_accepted : (xs ys zs : List ℕ) (total mask : ℕ) (chain : List Bool) → ltb (length xs) scratch_needed ≡ false → stored total mask ≡ key_of (leaves_of q) (leaves_of t) (rows_of table) → chain ≡ tab 64 (in_mask mask) → length ys ≡ length xs → zs ≡ replicate (length ys) 0 → Answered q t table xs zs (Ok (record { total = total; chain = chain }))
  unfolding best_of scratch_after
  best_accepted xs ys zs total mask chain room e c l z =
      record {
        answer = rw (room, ← e, c);
        scratch = rw (room, ← l) z;
      }

  -- The table on the scratch, of the seeds as they stand.
  module _ (h : Kept q t table) (s : Standing) (o : Stood (leaves_of q) (leaves_of t) (rows_of table) s) where
    few : length (rows_of table) ≤ 64
    few = omega (arith, rows_length table, h.laid.few)

    seeds : (i : ℕ) → i < length (rows_of table) → Pattern (leaves_of q) (leaves_of t) (row_in (rows_of table) i).pairs
    seeds i b = (h.each i b).seed.pattern

    score_row : (i : ℕ) → i < length (rows_of table) → score_by table.scores i ≡ (row_in (rows_of table) i).score
    unfolding row_at
    score_row i b = sym (ap (λ (r : Row). r.score) (row_there table i (omega (arith, rows_length table))))

    most : (i : ℕ) → i < length (rows_of table) → score_by table.scores i ≤ℤ pos 1000000
    most i b = rw (score_row i b) (range_most (row_in (rows_of table) i).score (h.each i b).ranged)

    pub table_posed : Posed s table.scores
    table_posed = posed (tree_nested q h.is_q) (tree_nested t h.is_t) (rows_of table) few seeds s o table.scores most

    pub table_key : optimum.best_among (items_of s table.scores) (λ x. true) s.count ≡ key_of (leaves_of q) (leaves_of t) (rows_of table)
    table_key = key_is (tree_nested q h.is_q) (tree_nested t h.is_t) (rows_of table) few seeds s o table.scores score_row
