-- `Lane::push`: the job stands in the first place that held none.
use Rattle.std.proofs.Common.{arith}
use Rattle.std.proofs.lemmas.List.{take_more_set}
use Rattle.queue.proofs.Lanes.{pushed, room_left}
use Rattle.queue.proofs.lane.Lane.push.Goals as goal

pub returns : goal.returns
returns c =
    let room = room_left c.self.invariant c.self.view_is c.requires.room in
    rw (← c.self.view_is) (take_more_set c.self.inside.jobs c.self.inside.count c.args.job (omega (arith, room, c.self.invariant.places)))

pub invariant_of-self : goal.invariant_of-self
invariant_of-self c = pushed c.self.invariant _ (room_left c.self.invariant c.self.view_is c.requires.room)
