-- Demand 2 of the session: a list of pairs is added exactly if it is a seed within the limits, and it gets the number after the last.
use mathlib.Core.Path.{◌≡◌, sym, subst, ◌∙◌}
use mathlib.Core.Logic.{◌↔◌}
use mathlib.Core.List.{List}
use Prim.Native.Nat.{ℕ, ◌+◌}
use lib.IntN.{ℤ}
use lib.ListN.{length}
use Rattle.std.specs.Prelude.{Result, IfOk}
use Rattle.answer.specs.Refusal.{answer_in}
use borrow.Author.Tests.{lt-leb}
use Rattle.answer.specs.Answer.{Answer, Accepted}
use Rattle.answer.specs.declared.Refusal.{Refusal}
use Rattle.answer.proofs.Given.{not_refused}
use Rattle.tree.specs.Nested.{Nested}
use Rattle.tree.specs.Reading.{leaves_of}
use Rattle.tree.proofs.Trees.{tree_nested}
use Rattle.seed.specs.declared.Pair.{Pair}
use Rattle.adding.specs.Adding.{next_answer, Addable}
use Rattle.adding.proofs.Next.{next_exactly}
use Rattle.chain.specs.State.{State, count_answer}
use Rattle.chain.specs.Acts.{add, add_answer, grounds}
use Rattle.chain.specs.View.{view, Does}
use Rattle.chain.specs.Opening.{Outcome}
use Rattle.chain.specs.declared.Session.{Session}
use Rattle.chain.proofs.Judges.{add_passed, add_passes, count_room}
use Rattle.demand.specs.History.{Event, state_of}
use Rattle.demand.specs.Reached.{Reached}
use Rattle.demand.specs.Demands.{Takes, AddsRight}
use Rattle.demand.proofs.Histories.{reached_sound, by_history}

module _ (s : State) (tree_q : Nested (leaves_of s.q)) (tree_t : Nested (leaves_of s.t)) (ps : List Pair) (z : ℤ) where
  judged : Answer
  judged = next_answer s.q s.t s.rows ps z

  exactly : (judged ≡ Accepted) ↔ Addable s.q s.t s.rows ps z
  unfolding judged
  exactly = next_exactly s.q s.t tree_q tree_t s.rows ps z

  -- A list of pairs with a score is added exactly if a session in this state takes it.
  taken : add_answer s ps z ≡ Accepted → Takes s ps z
  unfolding judged
  taken e =
      let a = not_refused judged (count_answer s.changes) e in
      record { addable = exactly.0 a.0; room = count_room s.changes a.1 }

  takes : Takes s ps z → add_answer s ps z ≡ Accepted
  unfolding judged count_answer
  takes w = rw (exactly.1 w.addable, lt-leb 1000000 s.changes w.room)

  adds_exactly : (grounds s (add ps z) ≡ Accepted) ↔ Takes s ps z
  adds_exactly = (λ e. taken (add_passed s ps z e), λ w. add_passes s ps z (takes w))

-- Of every session that a list of calls handed over, by the history: when an add is accepted, and the number that it gives.
pub adds_by_history : {o : Outcome} {s next : Session} {h : List Event} → Reached o s h
    → (ps : List Pair) (z : ℤ) {r : Result ℕ Refusal} → Does s (add ps z) (answer_in r) next → IfOk r (λ number. number ≡ length (view s).rows + 1)
    → AddsRight (state_of o.state h) ps z r
adds_by_history {o} {s} w ps z {r} d given =
    subst (λ (x : State). AddsRight x ps z r) (by_history w)
    (record { exactly = (λ ok. told.0 (sym d.answers ∙ ok), λ t. d.answers ∙ told.1 t); given = given })
  where
    told : (grounds (view s) (add ps z) ≡ Accepted) ↔ Takes (view s) ps z
    told = let kept = (reached_sound w).kept in adds_exactly (view s) (tree_nested s.q kept.is_q) (tree_nested s.t kept.is_t) ps z
