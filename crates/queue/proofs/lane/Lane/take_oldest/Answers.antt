-- `Lane::take_oldest`: the others move one place nearer.
use Rattle.queue.proofs.Lanes.{first_oldest, moved, others, taken_from}
use Rattle.queue.proofs.lane.Lane.take_oldest.Goals as goal

pub returns-clause-takes : goal.returns-clause-takes
returns-clause-takes c = rw (← c.self.view_is) (first_oldest c.args.kind c.self.inside.jobs c.self.inside.count c.if-self-eq0.false c.self.invariant.few)

pub returns-clause-leaves : goal.returns-clause-leaves
returns-clause-leaves c = rw (c.copy_within.ensures.after, moved c.self.invariant, ← c.self.view_is) (others c.self.invariant c.if-self-eq0.false)

pub invariant_of-self : goal.invariant_of-self
invariant_of-self c = rw (c.copy_within.ensures.after, moved c.self.invariant) (taken_from c.self.invariant c.if-self-eq0.false)
