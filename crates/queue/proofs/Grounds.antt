-- An offer is refused with 31 exactly if 16 jobs wait, and on no other ground.
use mathlib.Core.List.{List}
use Prim.Native.Nat.{◌≤◌}
use lib.Dec.{eqb}
use borrow.Author.Tests.{eq-eqb, eqb-true}
use Rattle.answer.specs.Grounds.{Decides}
use Rattle.answer.specs.declared.Ground.TheVariants.{QueueFull}
use Rattle.answer.specs.declared.Place.TheVariants.{Nothing}
use Rattle.answer.proofs.Grounds.{ground}
use Rattle.queue.specs.Jobs.{QueueState, waiting_count, offer_answer}
use Rattle.queue.specs.Calls.{Call, state_from_start}
use Rattle.queue.specs.Grounds.{OfferSays}
use Rattle.queue.proofs.PastTurns.{orderly}

pub offer_decides : (s : QueueState) → Decides (OfferSays s) (offer_answer s)
unfolding offer_answer
offer_decides s = ground (eqb (waiting_count s) 16) (eqb-true (waiting_count s) 16, eq-eqb (waiting_count s) 16) QueueFull Nothing

-- "At most 16 together".
pub at_most_sixteen : (calls : List Call) → waiting_count (state_from_start calls) ≤ 16
at_most_sixteen calls = (orderly calls).few
