-- The sessions that a list of calls hands over, each call having kept its own promise.
use Rattle.std.specs.Prelude.{◌≡◌, List, [], ◌∷◌, ℕ, length, Result}
use Rattle.answer.specs.Refusal.{answer_in}
use Rattle.answer.specs.Answer.{Answer}
use Rattle.answer.specs.declared.Refusal.{Refusal}
use Rattle.area.specs.declared.Order.{Order}
use Rattle.table.specs.declared.Summary.{Summary}
use Rattle.best.specs.declared.Best.{Best}
use Rattle.chain.specs.Acts.{Act, best_chain, list_areas, write_deck, show_row}
use Rattle.chain.specs.View.{view, Does}
use Rattle.chain.specs.Opening.{Outcome, Opens, opening_answer, opened}
use Rattle.chain.specs.Looking.{Chains, Lists, Writes, shown_of}
use Rattle.chain.specs.declared.RefusedOpening.{RefusedOpening}
use Rattle.chain.specs.declared.Session.{Session}
use Rattle.demand.specs.History.{Event, event}

-- A call that hands over no session kept its own promise and answered so.
pub data Looked (s : Session) : Act → Answer → Type 0 where
  chained : {before after : List ℕ} {r : Result Best Refusal} → Chains (view s) before after r → Looked s (best_chain (length before)) (answer_in r)
  listed : {before after : List ℕ} {r : Result ℕ Refusal} (order : Order) (k : ℕ) → Lists (view s) order k before after r → Looked s (list_areas order k (length before)) (answer_in r)
  written : {before after : List ℕ} {r : Result ℕ Refusal} → Writes (view s) before after r → Looked s (write_deck (length before)) (answer_in r)
  shown : {r : Result Summary Refusal} (k : ℕ) → r ≡ shown_of (view s) k → Looked s (show_row k) (answer_in r)

-- The session s is what the last call of a list handed over that began with an opening of this outcome; the list's events, the latest first.
-- After a call that hands over no session the caller keeps the one it has. The answer a of a call is `answer_in` of its result.
pub data Reached (o : Outcome) : Session → List Event → Type 0 where
  begun : (r : Result Session RefusedOpening) → Opens o (opening_answer r) (opened r) → Reached o (opened r) []
  called : {s next : Session} {h : List Event} {act : Act} {a : Answer} → Reached o s h → Does s act a next → Reached o next (event act a ∷ h)
  looked : {s : Session} {h : List Event} {act : Act} {a : Answer} → Reached o s h → Looked s act a → Reached o s (event act a ∷ h)
