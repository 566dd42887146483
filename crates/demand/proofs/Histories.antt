-- A session that a list of calls handed over is sound, and its state is that of the list's history.
use mathlib.Core.Path.{◌≡◌, refl, sym, ap, ◌∙◌}
use mathlib.Core.Bool.{true, cond, false≢true}
use mathlib.Core.List.{List, [], ◌∷◌}
use Rattle.std.specs.Prelude.{Result}
use Rattle.std.proofs.lemmas.Bool.{cond_both}
use Rattle.answer.specs.Answer.{decide, is_accepted, Answer, Accepted, Refused}
use Rattle.answer.specs.Refusal.{result_of, answer_in}
use Rattle.answer.specs.declared.Refusal.{Refusal}
use Rattle.chain.specs.State.{State}
use Rattle.chain.specs.Acts.{Act, add, withdraw, bring_back, rescore, best_chain, list_areas, write_deck, show_row, grounds, after}
use Rattle.chain.specs.View.{view, Sound}
use Rattle.chain.specs.Opening.{Outcome}
use Rattle.chain.specs.declared.Session.{Session}
use Rattle.demand.specs.History.{Event, event, state_of}
use Rattle.demand.specs.Reached.{Looked, Reached}
use Rattle.demand.specs.Reached.Looked.{chained, listed, written, shown}
use Rattle.demand.specs.Reached.Reached.{begun, called, looked}

-- A call that hands over no session leaves every state as it is.
still : {s : Session} {act : Act} {a : Answer} → Looked s act a → (x : State) → after act x ≡ x
still (chained c) x = refl
still (listed order k c) x = refl
still (written c) x = refl
still (shown k c) x = refl

answer_is : {T : Type 0} {r : Result T Refusal} (a : Answer) (value : T) → r ≡ result_of a value → answer_in r ≡ a
answer_is Accepted value e = ap answer_in e
answer_is (Refused g p) value e = ap answer_in e

-- It answers what its grounds say.
pub looked_answer : {s : Session} {act : Act} {a : Answer} → Looked s act a → a ≡ grounds (view s) act
looked_answer (chained c) = answer_is _ _ c.answers
looked_answer (listed order k c) = answer_is _ _ c.answers
looked_answer (written c) = answer_is _ _ c.answers
looked_answer (shown k e) = answer_is _ _ e

by_event : {A : Type 0} (a : Answer) (x y : A) → decide a x y ≡ cond (is_accepted a) x y
by_event Accepted x y = refl
by_event (Refused g p) x y = refl

was_accepted : (a : Answer) → is_accepted a ≡ true → a ≡ Accepted
was_accepted Accepted e = refl
was_accepted (Refused g p) e = absurd (false≢true e)

-- In a history a call that hands over no session leaves the state as it was.
pub looked_still : {s : Session} {act : Act} {a : Answer} → Looked s act a → (start : State) (h : List Event) → state_of start (event act a ∷ h) ≡ state_of start h
unfolding state_of
looked_still {s} {act} {a} l start h = cond_both (is_accepted a) _ _ (λ x. x ≡ state_of start h) (λ e. still l (state_of start h)) (λ e. refl)

-- So does a refused call.
pub refused_still : (act : Act) (a : Answer) → (a ≡ Accepted → ⊥) → (start : State) (h : List Event) → state_of start (event act a ∷ h) ≡ state_of start h
unfolding state_of
refused_still act Accepted denied start h = absurd (denied refl)
refused_still act (Refused g p) denied start h = refl

pub reached_sound : {o : Outcome} {s : Session} {h : List Event} → Reached o s h → Sound s
reached_sound (begun r w) = w.sound
reached_sound (called w d) = d.sound
reached_sound (looked w l) = reached_sound w

-- No list of calls changes the two trees.
trees_after : (act : Act) (s : State) → ((after act s).q ≡ s.q) × ((after act s).t ≡ s.t)
trees_after (add ps z) s = (refl, refl)
trees_after (withdraw k) s = (refl, refl)
trees_after (bring_back k) s = (refl, refl)
trees_after (rescore k z) s = (refl, refl)
trees_after (best_chain room) s = (refl, refl)
trees_after (list_areas order k room) s = (refl, refl)
trees_after (write_deck room) s = (refl, refl)
trees_after (show_row k) s = (refl, refl)

pub trees_stay : (start : State) (h : List Event) → ((state_of start h).q ≡ start.q) × ((state_of start h).t ≡ start.t)
unfolding state_of
trees_stay start [] = (refl, refl)
trees_stay start (e ∷ es) =
    let before = trees_stay start es in
    let by_call = trees_after e.act (state_of start es) in
    cond_both e.accepted _ _ (λ (x : State). (x.q ≡ start.q) × (x.t ≡ start.t)) (λ ok. (by_call.0 ∙ before.0, by_call.1 ∙ before.1)) (λ no. before)

-- Every call, whose contract is a function of the state, answers by the opening, the calls, their arguments and which were accepted, so that 13,
-- 14 and 20 come exactly when these say so.
pub by_history : {o : Outcome} {s : Session} {h : List Event} → Reached o s h → view s ≡ state_of o.state h
unfolding state_of
by_history (begun r w) = w.leaves
by_history {o} (called {s} {next} {h} {act} {a} w d) =
    d.leaves ∙ by_event a (after act (view s)) (view s) ∙ ap (λ (x : State). cond (is_accepted a) (after act x) x) (by_history w)
by_history {o} (looked {s} {h} w l) = by_history w ∙ sym (looked_still l o.state h)

-- The last call of a list was made on a session that the calls before it handed over, and if it was accepted, its grounds said so.
abbrev LastCall : Outcome → List Event → Type 0
LastCall o [] = Unit {0}
LastCall o (e ∷ h) = ((s : Session) × Reached o s h) × (e.accepted ≡ true → grounds (state_of o.state h) e.act ≡ Accepted)

last_call : {o : Outcome} {s : Session} {h : List Event} → Reached o s h → LastCall o h
last_call (begun r w) = tt
last_call {o} (called {s} {next} {h} {act} {a} w d) = ((s, w), λ ok. ap (λ (x : State). grounds x act) (sym (by_history w)) ∙ sym d.answers ∙ was_accepted a ok)
last_call {o} (looked {s} {h} {act} {a} w l) = ((s, w), λ ok. ap (λ (x : State). grounds x act) (sym (by_history w)) ∙ sym (looked_answer l) ∙ was_accepted a ok)

pub session_before : {o : Outcome} {s : Session} {h : List Event} {e : Event} → Reached o s (e ∷ h) → (earlier : Session) × Reached o earlier h
session_before w = (last_call w).0

pub accepted_by_lem : {o : Outcome} {s : Session} {h : List Event} {act : Act} → Reached o s (event act Accepted ∷ h) → grounds (state_of o.state h) act ≡ Accepted
accepted_by_lem w = (last_call w).1 refl
