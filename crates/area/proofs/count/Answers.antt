use Rattle.std.proofs.Common.{arith}
use Rattle.area.proofs.AreaSteps.{count_none, count_room, count_next}
use Rattle.area.proofs.count.Goals as goal

pub loop-a-init : goal.loop-a-init
loop-a-init c = count_none _ _

pub overflow_add-count : goal.overflow_add-count
overflow_add-count c = let u = count_room _ _ _ _ _ c.loop-a.invariant c.count_row-count.ensures in omega arith

pub loop-a-preserved : goal.loop-a-preserved
loop-a-preserved c = count_next _ _ _ _ _ c.loop-a.invariant c.count_row-count.ensures
