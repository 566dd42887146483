-- `Queue::take_turn`: the lane that is due gives its oldest job, and the row is that of the past turns.
use Rattle.std.proofs.Common.{refl, sym, ◌∙◌}
use Rattle.queue.proofs.Handovers.{ordinary_taken, urgent_taken}
use Rattle.queue.proofs.Queue.take_turn.Goals as goal

pub returns-then-passes_urgent : goal.returns-then-passes_urgent
returns-then-passes_urgent c =
    let lane = c.take_oldest.ensures in
    ordinary_taken c.self.view_is c.self.invariant (sym c.passes_urgent.ensures ∙ c.if-passes_urgent.true) refl lane.takes lane.leaves

pub returns : goal.returns
returns c =
    let lane = c.take_oldest-2.ensures in
    urgent_taken c.self.view_is c.self.invariant (sym c.passes_urgent.ensures ∙ c.if-passes_urgent.false) refl lane.takes lane.leaves c.row_after_urgent-self-inside.ensures
