-- `Queue::row_after_urgent`: no more than three turns are in a row.
use Rattle.queue.proofs.Handovers.{row_fits}
use Rattle.queue.proofs.Queue.row_after_urgent.Goals as goal

pub overflow_add-result : goal.overflow_add-result
overflow_add-result c = row_fits c.self.view_is c.self.invariant
