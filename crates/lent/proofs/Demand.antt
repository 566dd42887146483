-- Demand 3 with the two calls on lent memory: their contracts are what a step of the history cites, so a list of calls may have them wherever it
-- has the calls by value.
use mathlib.Core.List.{List, ◌∷◌}
use Prim.Native.Nat.{ℕ}
use lib.IntN.{ℤ}
use Rattle.std.specs.Prelude.{Result, Ok}
use Rattle.answer.specs.Refusal.{answer_in}
use Rattle.answer.specs.declared.Refusal.{Refusal}
use Rattle.seed.specs.declared.Pair.{Pair}
use Rattle.best.specs.Best.{NamesBest}
use Rattle.best.specs.declared.Best.{Best}
use Rattle.chain.specs.Acts.{add, rescore}
use Rattle.chain.specs.View.{view, Does}
use Rattle.chain.specs.Opening.{Outcome}
use Rattle.chain.specs.Looking.{seeds_in, Chains}
use Rattle.chain.specs.declared.Session.{Session}
use Rattle.chain.specs.declared.Added.{Added}
use Rattle.demand.specs.History.{Event, event, state_of}
use Rattle.demand.specs.Reached.{Reached}
use Rattle.demand.specs.Reached.Reached.{called}
use Rattle.demand.proofs.Demand.{demand_3}

-- Demand 3 of a session that was added to from a lent slice and then rescored by reference, whatever came before.
pub demand_3_lent : {o : Outcome} {s next : Session} {h : List Event} → Reached o s h
    → (ps : List Pair) (z : ℤ) (r : Added) → Does s (add ps z) (answer_in r.answer) r.session
    → (k : ℕ) (y : ℤ) (a : Result (Unit {0}) Refusal) → Does r.session (rescore k y) (answer_in a) next
    → (before after : List ℕ) (best : Best) → Chains (view next) before after (Ok best)
    → NamesBest (seeds_in (state_of o.state (event (rescore k y) (answer_in a) ∷ event (add ps z) (answer_in r.answer) ∷ h))) best
demand_3_lent w ps z r d k y a e before after best c = demand_3 (called (called w d) e) before after best c
