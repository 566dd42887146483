use Rattle.std.proofs.Common.{arith}
use Rattle.gap.proofs.GapSteps.{fill_start, fill_next}
use Rattle.gap.proofs.gaps_in.Goals as goal

pub loop-i-init : goal.loop-i-init
loop-i-init c = (omega arith, fill_start _)

pub loop-i-preserved : goal.loop-i-preserved
loop-i-preserved c = (omega arith, fill_next _ _ _ _ (omega arith) c.loop-i.invariant.1 c.gap.ensures)
