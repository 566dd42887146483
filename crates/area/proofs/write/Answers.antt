use Rattle.std.proofs.Common.{arith}
use Rattle.area.proofs.AreaSteps.{write_start, write_room, write_next, write_all}
use Rattle.area.proofs.write.Goals as goal

pub loop-a-init : goal.loop-a-init
loop-a-init c = write_start _ _

pub write_row-at-requires : goal.write_row-at-requires
write_row-at-requires c = record { row = c.loop-a-test.true; few_g = c.requires.few_g; few_h = c.requires.few_h; room = write_room _ _ c.requires.room _ c.loop-a.invariant c.loop-a-test.true }

pub loop-a-preserved : goal.loop-a-preserved
loop-a-preserved c = write_next _ _ c.requires.room _ c.loop-a.invariant c.loop-a-test.true c.write_row-at.ensures

pub returns : goal.returns
returns c = write_all _ _ c.requires.room _ c.loop-a.invariant (omega arith)
