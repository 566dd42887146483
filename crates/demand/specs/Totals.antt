-- Best chain asked before and after one call, for how far that call can move the total.
use Rattle.std.specs.Prelude.{◌≡◌, List, ◌∷◌, ℕ, Ok}
use Rattle.answer.specs.Answer.{Accepted}
use Rattle.table.specs.Rows.{Row, row_of}
use Rattle.best.specs.declared.Best.{Best}
use Rattle.chain.specs.State.{State}
use Rattle.chain.specs.Acts.{Act}
use Rattle.chain.specs.View.{view}
use Rattle.chain.specs.Opening.{Outcome}
use Rattle.chain.specs.Looking.{Chains}
use Rattle.chain.specs.declared.Session.{Session}
use Rattle.demand.specs.History.{Event, event, state_of}
use Rattle.demand.specs.Reached.{Reached}

-- The total that an accepted best chain answers of a session which a list of calls with this history handed over.
pub data TotalBy (o : Outcome) (h : List Event) : ℕ → Type 0 where
  asked : {s : Session} {before after : List ℕ} {best : Best} → Reached o s h → Chains (view s) before after (Ok best) → TotalBy o h best.total

-- A history goes on from h by calls that move no seed and no score: each leaves the rows as they were.
pub data UnmovedSince (start : State) (h : List Event) : List Event → Type 0 where
  at_once : UnmovedSince start h h
  and_one : {later : List Event} {e : Event} → UnmovedSince start h later → (state_of start (e ∷ later)).rows ≡ (state_of start later).rows → UnmovedSince start h (e ∷ later)

-- Best chain was asked, and asked again: in between one call was accepted, after the history h, and all others, best chain among them, moved no
-- seed and no score.
pub record AskedAround (o : Outcome) (h : List Event) (act : Act) (total total' : ℕ) : Type 0 where
  pub history_before : List Event
  pub history_after : List Event
  pub total_before : TotalBy o history_before total
  pub unmoved_before : UnmovedSince o.state history_before h
  pub unmoved_after : UnmovedSince o.state (event act Accepted ∷ h) history_after
  pub total_after : TotalBy o history_after total'

-- The row of number k by the history.
abbrev pub row_by : Outcome → List Event → ℕ → Row
row_by o h k = row_of (state_of o.state h).rows k
