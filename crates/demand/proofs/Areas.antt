-- Demand 2 of the session: the boxes listed for a number, in either order, are the open areas of its row by the history.
use mathlib.Core.Path.{sym, subst, ◌∙◌}
use mathlib.Core.Logic.{◌↔◌}
use mathlib.Core.List.{List}
use Prim.Native.Nat.{ℕ}
use lib.ListN.{length}
use Rattle.std.specs.Prelude.{Ok}
use Rattle.tree.specs.Reading.{leaves_of}
use Rattle.tree.proofs.Trees.{tree_nested}
use Rattle.seed.specs.Seed.{◌∈◌}
use Rattle.seed.specs.Area.{Box, Areas}
use Rattle.seed.specs.declared.Pair.{Pair}
use Rattle.area.specs.PaperOrder.{AreasInPaperOrder, AreasInOrder}
use Rattle.area.specs.declared.Order.{Order}
use Rattle.area.proofs.PaperOrder.{areas_in_order}
use Rattle.table.specs.Rows.{row_of}
use Rattle.table.specs.Table.{rows_of}
use Rattle.chain.specs.State.{State}
use Rattle.chain.specs.Acts.{areas_in}
use Rattle.chain.specs.View.{view, Sound}
use Rattle.chain.specs.Opening.{Outcome}
use Rattle.chain.specs.Looking.{Lists}
use Rattle.chain.specs.declared.Session.{Session}
use Rattle.chain.proofs.Judges.{Given}
use Rattle.chain.proofs.Looks.{row_seed, as_many, areas_put}
use Rattle.demand.specs.History.{Event, state_of}
use Rattle.demand.specs.Reached.{Reached}
use Rattle.demand.specs.Demands.{ListsAreas}
use Rattle.demand.proofs.Histories.{reached_sound, by_history}

-- The row of a number that was given out is a seed, and these are its areas.
module _ (s : Session) (h : Sound s) (k : ℕ) (g : Given (length (rows_of s.table)) k) where
  pub row_areas : (order : Order) → AreasInOrder order (leaves_of s.q) (leaves_of s.t) (row_of (rows_of s.table) k).pairs (areas_in order (view s) k)
  unfolding areas_in
  row_areas order = areas_in_order (tree_nested s.q h.kept.is_q) (tree_nested s.t h.kept.is_t) _ (row_seed s k h g).pattern order

-- Of every session that a list of calls handed over, in either order.
pub areas_by_history : {o : Outcome} {s : Session} {h : List Event} → Reached o s h
    → (order : Order) (k : ℕ) (before after : List ℕ) (count : ℕ) → Lists (view s) order k before after (Ok count)
    → ListsAreas (state_of o.state h) order k before after count
areas_by_history {o} {s} {h} w order k before after count l =
    let put = areas_put l in
    let sound = reached_sound w in
    subst (λ (x : State). ListsAreas x order k before after count) (by_history w)
    (record {
      boxes = areas_in order (view s) k;
      are = row_areas s sound k put.number order;
      count = put.count_is ∙ sym (as_many s k sound put.number order);
      output = put.output;
    })

-- Both calls list the same areas: what one of the two lists has is in the other, and they are as many.
pub same_areas : {Q T : List ℕ} {ps : List Pair} {xs ys : List Box} → Areas Q T ps xs → AreasInPaperOrder Q T ps ys → (x : Box) → (x ∈ xs) ↔ (x ∈ ys)
same_areas a b x = (λ m. (b.each x).1 ((a.each x).0 m), λ m. (a.each x).1 ((b.each x).0 m))
