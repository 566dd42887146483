-- `standing::stands::widened`.
use Rattle.standing.specs.inner.Stands.{widened_by}
use Rattle.standing.proofs.stands.widened.Goals as goal

pub returns-then-on : goal.returns-then-on
unfolding widened_by
returns-then-on c = rw (c.if-on.true, c.bit.ensures.one c.requires)

pub returns-else-on : goal.returns-else-on
unfolding widened_by
returns-else-on c = rw c.if-on.false
