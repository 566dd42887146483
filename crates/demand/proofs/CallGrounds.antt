-- Of every session that a list of calls handed over: what a call of it answers is what the grounds say of the state by the history, and nothing
-- else may be answered.
use mathlib.Core.Path.{◌≡◌, sym, subst}
use mathlib.Core.List.{List}
use Prim.Native.Nat.{ℕ}
use Rattle.answer.specs.Grounds.{Decides}
use Rattle.answer.specs.Answer.{Answer}
use Rattle.tree.proofs.Trees.{tree_nested}
use Rattle.chain.specs.State.{State}
use Rattle.chain.specs.Acts.{Act, grounds}
use Rattle.chain.specs.View.{view, Does}
use Rattle.chain.specs.Opening.{Outcome, opening, deck_opening, Opens}
use Rattle.chain.specs.declared.Session.{Session}
use Rattle.demand.specs.History.{Event, state_of}
use Rattle.demand.specs.Reached.{Looked, Reached}
use Rattle.demand.specs.Grounds.{CallSays, OpenSays, OpenDeckSays}
use Rattle.demand.proofs.Histories.{reached_sound, by_history, looked_answer}
use Rattle.demand.proofs.Grounds.{call_decides}
use Rattle.demand.proofs.OpeningGrounds.{open_decides, open_deck_decides}

pub open_grounds : (q t : List ℕ) {a : Answer} {s : Session} → Opens (opening q t) a s → Decides (OpenSays q t) a
open_grounds q t w = subst (Decides (OpenSays q t)) (sym w.answers) (open_decides q t)

pub open_deck_grounds : (q t d : List ℕ) {a : Answer} {s : Session} → Opens (deck_opening q t d) a s → Decides (OpenDeckSays q t d) a
open_deck_grounds q t d w = subst (Decides (OpenDeckSays q t d)) (sym w.answers) (open_deck_decides q t d)

module _ {o : Outcome} {s : Session} {h : List Event} (w : Reached o s h) (act : Act) {a : Answer} where
  by_grounds : a ≡ grounds (view s) act → Decides (CallSays (state_of o.state h) act) a
  by_grounds e =
      let kept = (reached_sound w).kept in
      subst (λ (x : State). Decides (CallSays x act) a) (by_history w)
      (subst (Decides (CallSays (view s) act)) (sym e) (call_decides (view s) (tree_nested s.q kept.is_q) (tree_nested s.t kept.is_t) act))

  -- A call that hands over a session, and one that hands over none.
  pub call_grounds : {next : Session} → Does s act a next → Decides (CallSays (state_of o.state h) act) a
  call_grounds d = by_grounds d.answers

  pub look_grounds : Looked s act a → Decides (CallSays (state_of o.state h) act) a
  look_grounds l = by_grounds (looked_answer l)
