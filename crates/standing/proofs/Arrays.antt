-- From the arrays of a table to its rows: the seeds in order, and how they stand to one another.
use Rattle.std.proofs.Common.{◌≡◌, ℕ, ◌+◌, ◌*◌, ◌<◌, ◌≤◌, false, List, length, get_or, sym, ap, ◌∙◌, subst, ap₂, arith, length-take}
use Rattle.tree.specs.Reading.{IsTree, leaves_of}
use Rattle.tree.specs.declared.Tree.{Tree}
use Rattle.tree.proofs.Trees.{tree_length, tree_nested}
use Rattle.seed.specs.AreaList.{left, under}
use Rattle.seed.specs.Seed.{Pattern, last_pair}
use Rattle.seed.specs.declared.Pair.{Pair}
use Rattle.seed.proofs.Laws.{test_laws}
use Rattle.table.specs.Rows.{Row, row_in}
use Rattle.table.specs.Table.{nodes_of, pairs_at, row_at, rows_of, Kept}
use Rattle.table.specs.declared.Table.{Table}
use Rattle.table.proofs.Tables.{rows_length, row_there, q_length, t_length}
use Rattle.standing.specs.Standing.{rank_in, number_at, seed_at, Stood}
use Rattle.standing.specs.inner.Order.{last_of, rank_by, Ordered}
use Rattle.standing.specs.inner.Stands.{masks_of, pairs_by, seed_by, Lawful, Related}
use Rattle.standing.specs.declared.Standing.{Standing}
use Rattle.standing.specs.declared.order.Order.{Order}
use Rattle.standing.specs.declared.stands.Masks.{Masks}
use Rattle.masks.proofs.Bits.{mask_same}
use Rattle.standing.proofs.Lasts.{last_q}

-- A tree has as many leftmost leaves as its array is asked for.
pub tree_fits : (t : Tree) → IsTree t → t.n ≤ length t.left
tree_fits t h = omega (arith, tree_length t h, length-take t.n t.left)

module _ (q t : Tree) (table : Table) (h : Kept q t table) where
  pairs_row : (i : ℕ) → i < table.seeds → pairs_by table.qs table.ts table.bounds i ≡ (row_in (rows_of table) i).pairs
  unfolding pairs_by row_at pairs_at
  pairs_row i b = sym (ap (λ (r : Row). r.pairs) (row_there table i b))

  present_row : (i : ℕ) → i < table.seeds → get_or table.present i false ≡ (row_in (rows_of table) i).present
  unfolding row_at
  present_row i b = sym (ap (λ (r : Row). r.present) (row_there table i b))

  last_row : (i : ℕ) → i < table.seeds → last_of table.qs table.bounds i ≡ (last_pair (row_in (rows_of table) i).pairs).q
  unfolding last_of pairs_by
  last_row i b =
      last_q (nodes_of table.qs table.bounds i) (nodes_of table.ts table.bounds i) (q_length table h.laid i b ∙ sym (t_length table h.laid i b))
      ∙ ap (λ (ps : List Pair). (last_pair ps).q) (pairs_row i b)

  rank_row : (i : ℕ) → i < table.seeds → rank_by (last_of table.qs table.bounds) i ≡ rank_in (rows_of table) i
  rank_row i b = ap (λ (q : ℕ). q * 64 + i) (last_row i b)

  module _ (o : Order) (w : Ordered (last_of table.qs table.bounds) (λ i. get_or table.present i false) table.seeds o) where
    pub count_few : o.count ≤ 64
    count_few = omega (arith, w.few, h.laid.few)

    seed_row : (k : ℕ) → k < o.count → seed_by table.qs table.ts table.bounds o.numbers k ≡ seed_at (rows_of table) o.numbers k
    seed_row k b = pairs_row (number_at o.numbers k) (w.within k b)

    seeds : (k : ℕ) → k < o.count → Pattern (leaves_of q) (leaves_of t) (seed_by table.qs table.ts table.bounds o.numbers k)
    seeds k b = rw (seed_row k b) (h.each (number_at o.numbers k) (omega (arith, w.within k b, rows_length table))).seed.pattern

    pub lawful : Lawful (leaves_of q) (leaves_of t) (seed_by table.qs table.ts table.bounds o.numbers) o.count
    lawful =
        let l = test_laws (tree_nested q h.is_q) (tree_nested t h.is_t) o.count (seed_by table.qs table.ts table.bounds o.numbers) seeds in
        record { left_left = l.left_left; under_left = l.under_left; under_under = l.under_under; never_both = l.never_both }

    abbrev with_masks : List ℕ → List ℕ → Standing
    with_masks lefts unders = record { count = o.count; numbers = o.numbers; lefts = lefts; unders = unders }

    stood_masks : (lefts unders : List ℕ) → Related (leaves_of q) (leaves_of t) (seed_by table.qs table.ts table.bounds o.numbers) o.count lefts unders → Stood (leaves_of q) (leaves_of t) (rows_of table) (with_masks lefts unders)
    unfolding masks_of
    stood_masks lefts unders r =
        let long = rows_length table in
        record {
          few = omega (arith, w.few);
          room_numbers = w.long;
          room_lefts = r.lefts_long;
          room_unders = r.unders_long;
          within = λ k b. omega (arith, w.within k b);
          present = λ k b. sym (present_row (number_at o.numbers k) (w.within k b)) ∙ w.chosen k b;
          rising = λ j k a b.
              omega (arith, w.rising j k a b, rank_row (number_at o.numbers j) (w.within j (omega arith)), rank_row (number_at o.numbers k) (w.within k b));
          listed = λ i b e. let c : i < table.seeds = omega arith in w.listed i c (present_row i c ∙ e);
          left = λ y b.
              ap (λ (m : Masks). m.left) (r.are y b)
              ∙ mask_same _ _ y (λ x a. ap₂ (left (leaves_of q) (leaves_of t)) (seed_row x (omega arith)) (seed_row y b));
          under = λ y b.
              ap (λ (m : Masks). m.under) (r.are y b)
              ∙ mask_same _ _ y (λ x a. ap₂ (under (leaves_of q) (leaves_of t)) (seed_row x (omega arith)) (seed_row y b));
        }

    pub stood_is : (s : Standing) → Related (leaves_of q) (leaves_of t) (seed_by table.qs table.ts table.bounds o.numbers) o.count s.lefts s.unders → s.count ≡ o.count → s.numbers ≡ o.numbers → Stood (leaves_of q) (leaves_of t) (rows_of table) s
    stood_is s r e f =
        subst (Stood (leaves_of q) (leaves_of t) (rows_of table))
        (ap₂ (λ (n : ℕ) (numbers : List ℕ). record { count = n; numbers = numbers; lefts = s.lefts; unders = s.unders }) (sym e) (sym f))
        (stood_masks s.lefts s.unders r)
