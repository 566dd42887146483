use Rattle.std.proofs.Common.{sym, arith}
use Rattle.gap.proofs.GapSteps.{count_start, count_inside, count_above, count_on, count_end, weight_most}
use Rattle.gap.proofs.gap.Goals as goal

pub loop-node-init : goal.loop-node-init
loop-node-init c = (omega arith, count_start)

pub returns-then-side-eq3 : goal.returns-then-side-eq3
returns-then-side-eq3 c = sym (count_inside c.loop-node.invariant.1 c.side-side.ensures c.loop-node-test.true c.if-side-eq3.true)

pub returns-then-side-eq2 : goal.returns-then-side-eq2
returns-then-side-eq2 c = sym (count_above c.loop-node.invariant.1 c.side-side.ensures c.loop-node-test.true c.if-side-eq2.true)

pub overflow_add-gap : goal.overflow_add-gap
overflow_add-gap c = omega (arith, weight_most c.side-side.result)

pub loop-node-preserved : goal.loop-node-preserved
loop-node-preserved c = (omega arith, count_on c.loop-node.invariant.1 c.side-side.ensures c.loop-node-test.true c.weight-gap.ensures c.if-side-eq3.false c.if-side-eq2.false)

pub returns : goal.returns
returns c = sym (count_end c.loop-node.invariant.1 c.loop-node-test.false)
