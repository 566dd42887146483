use Rattle.std.proofs.Common.{arith}
use Rattle.judge.proofs.Climbs.{reach_part}
use Rattle.judge.proofs.border.reaches.Goals as goal

pub loop-leaf-preserved : goal.loop-leaf-preserved
loop-leaf-preserved c =
    let here = c.loop-leaf-test.true in
    (omega (arith, here), reach_part c.args.l.now c.requires.run c.requires.within here c.loop-leaf.invariant.1)
