-- A session's history: the calls of a list with their arguments and whether each was accepted, and the state that they give.
-- Nothing here comes from a session's fields.
use Rattle.std.specs.Prelude.{Bool, cond, List, [], ◌∷◌}
use Rattle.answer.specs.Answer.{is_accepted, Answer}
use Rattle.chain.specs.State.{State}
use Rattle.chain.specs.Acts.{Act, after}

pub record Event : Type 0 where
  pub act : Act
  pub accepted : Bool

abbrev pub event : Act → Answer → Event
event act answer = record { act = act; accepted = is_accepted answer }

-- The state after the events of a list, the latest of which stands first; a refused call leaves it as it was.
unfoldable pub state_of : State → List Event → State
state_of start [] = start
state_of start (e ∷ es) = cond e.accepted (after e.act (state_of start es)) (state_of start es)
