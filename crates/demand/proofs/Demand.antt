-- Demand 3: after any list of calls from an opening, best chain names the best chain of the seeds that are present by the history, with exactly
-- their sum.
use mathlib.Core.Path.{sym, ap, subst, subst₂, ◌∙◌}
use mathlib.Core.List.{List}
use Prim.Native.Nat.{ℕ, ◌≤◌}
use lib.ListN.{length}
use native.Mathlib.Omega.{arith}
use Rattle.std.specs.Prelude.{Ok}
use Rattle.tree.specs.Run.{Run}
use Rattle.tree.specs.Reading.{leaves_of, tree_of}
use Rattle.table.specs.Rows.{Row}
use Rattle.table.specs.Table.{rows_of}
use Rattle.table.proofs.Tables.{rows_length}
use Rattle.tree.proofs.Trees.{tree_nested}
use Rattle.best.specs.Best.{seeds_of, NamesBest}
use Rattle.best.specs.declared.Best.{Best}
use Rattle.best.proofs.BestChain.{best_chain_lem}
use Rattle.chain.specs.State.{State}
use Rattle.chain.specs.View.{view, Sound}
use Rattle.chain.specs.Opening.{Outcome, start_with}
use Rattle.chain.specs.Looking.{seeds_in, best_in, Chains}
use Rattle.chain.specs.declared.Session.{Session}
use Rattle.demand.specs.History.{Event, state_of}
use Rattle.demand.specs.Reached.{Reached}
use Rattle.demand.specs.Demands.{OpenedOn, seeds_by}
use Rattle.demand.proofs.Histories.{reached_sound, by_history, trees_stay}
use Rattle.chain.proofs.Looks.{chosen}
use Rattle.demand.proofs.Openings.{opened_state, opened_few, leaves_spelled}

-- The best chain that is computed is that of the session's seeds.
names_best : (s : Session) → Sound s → NamesBest (seeds_in (view s)) (best_in (view s))
names_best s h =
    let few : length (rows_of s.table) ≤ 64 = omega (arith, rows_length s.table, h.kept.laid.few) in
    let best = best_chain_lem (tree_nested s.q h.kept.is_q) (tree_nested s.t h.kept.is_t) (rows_of s.table) (λ i b. (h.kept.each i b).seed.pattern) few in
    record { chain_best = best.chain_best; total_is = best.total_is }

-- Over any list of calls, whatever the accepted scratch held: the numbers named are present rows of the history's table, any two chainable; the total is
-- exactly their sum; no chain of present rows sums to more; and one that sums to the same loses by the tie rule.
pub demand_3 : {o : Outcome} {s : Session} {h : List Event} → Reached o s h → (before after : List ℕ) (best : Best) → Chains (view s) before after (Ok best) → NamesBest (seeds_in (state_of o.state h)) best
demand_3 {o} {s} {h} w before after best c =
    subst₂ (λ (x : State) (b : Best). NamesBest (seeds_in x) b) (by_history w) (sym (chosen c).answers) (names_best s (reached_sound w))

-- The same closed over two texts that runs spell, with a deck, without one, and from the session of a refused opening.
pub demand_3_closed : {o : Outcome} {r p : Run} {rows : List Row} → OpenedOn o r p rows → {s : Session} {h : List Event} → Reached o s h
    → (before after : List ℕ) (best : Best) → Chains (view s) before after (Ok best)
    → NamesBest (seeds_by r p rows h) best
demand_3_closed {o} {r} {p} {rows} on {s} {h} w before after best c =
    let start : State = start_with (tree_of r) (tree_of p) rows in
    let stay = trees_stay start h in
    let few = opened_few on in
    subst₂ (λ (Q T : List ℕ). NamesBest (seeds_of Q T (state_of start h).rows) best)
    (ap leaves_of stay.0 ∙ leaves_spelled r few.0)
    (ap leaves_of stay.1 ∙ leaves_spelled p few.1)
    (subst (λ (x : State). NamesBest (seeds_in (state_of x h)) best) (opened_state on) (demand_3 w before after best c))
