-- `standing::stands::relate`: the seeds passed have their last pairs and their masks.
use Rattle.standing.specs.inner.Stands.{seed_by, Lasts, Related}
use Rattle.standing.proofs.stands.relate.Given as goal

abbrev pub invariant-loop-y : goal.invariant-loop-y
invariant-loop-y l = Lasts (seed_by l.qs l.ts l.bounds l.order.numbers) l.y l.rq l.rt × Related l.lq l.lt (seed_by l.qs l.ts l.bounds l.order.numbers) l.y l.lefts l.unders
