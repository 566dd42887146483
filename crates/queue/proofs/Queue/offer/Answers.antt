-- `Queue::offer`: a full queue stays, and any other has the job behind those of its kind.
use Rattle.std.proofs.Common.{refl, sym, ◌∙◌}
use Rattle.queue.proofs.Handovers.{refuses, urgent_room, ordinary_room, urgent_offered, ordinary_offered}
use Rattle.queue.proofs.Queue.offer.Goals as goal

pub returns-then-is_full : goal.returns-then-is_full
returns-then-is_full c = rw c.at.ensures (refuses c.self.view_is c.self.invariant (sym c.is_full.ensures ∙ c.if-is_full.true))

pub push-requires : goal.push-requires
push-requires c = record { room = urgent_room c.self.view_is c.self.invariant (sym c.is_full.ensures ∙ c.if-is_full.false) }

pub push-requires-in-Ordinary : goal.push-requires-in-Ordinary
push-requires-in-Ordinary c = record { room = ordinary_room c.self.view_is c.self.invariant (sym c.is_full.ensures ∙ c.if-is_full.false) }

pub returns-in-Urgent : goal.returns-in-Urgent
returns-in-Urgent c = urgent_offered c.self.view_is c.self.invariant (sym c.is_full.ensures ∙ c.if-is_full.false) c.in-Urgent.is refl c.push.ensures

pub returns-in-Ordinary : goal.returns-in-Ordinary
returns-in-Ordinary c = ordinary_offered c.self.view_is c.self.invariant (sym c.is_full.ensures ∙ c.if-is_full.false) c.in-Ordinary.is refl c.push-in-Ordinary.ensures
