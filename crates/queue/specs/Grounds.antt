-- What the one ground says of an offer.
use Rattle.std.specs.Prelude.{◌≡◌}
use Rattle.answer.specs.Answer.{Said}
use Rattle.answer.specs.Grounds.{GivenIf}
use Rattle.answer.specs.declared.Place.TheVariants.{Nothing}
use Rattle.queue.specs.Jobs.{QueueState, waiting_count}

-- "It refuses with 31 .. a job offered while exactly 16 wait; the queue has no other ground".
abbrev pub OfferSays : QueueState → Said → Type 0
OfferSays s = GivenIf (waiting_count s ≡ 16) 31 Nothing
