use Rattle.std.proofs.Common.{arith}
use Rattle.area.proofs.Walks.{children_all, child_start, child_room, child_written, children_written}
use Rattle.area.proofs.paper.write_under.Goals as goal

pub loop-end-init : goal.loop-end-init
loop-end-init c = children_all

pub write_child-next-requires : goal.write_child-next-requires
write_child-next-requires c =
    let trees = c.requires.trees in
    let v = child_start trees.tree c.requires.room c.loop-end.invariant c.leaf_at-low.ensures c.loop-end-test.true c.leaf_at-a.ensures in
    record {
      child = omega (arith, c.requires.node, trees.same, c.loop-end.invariant.low, c.loop-end-test.true);
      start = omega (arith, c.requires.node, trees.same, c.loop-end.invariant.low, v);
      few_g = trees.few_g;
      few_h = trees.few_h;
      room = child_room trees.tree c.requires.room c.loop-end.invariant c.leaf_at-low.ensures c.loop-end-test.true c.leaf_at-a.ensures;
    }

pub loop-end-preserved : goal.loop-end-preserved
loop-end-preserved c = child_written c.requires.trees.tree c.requires.room c.loop-end.invariant c.leaf_at-low.ensures c.loop-end-test.true c.leaf_at-a.ensures c.write_child-next.ensures

pub returns : goal.returns
returns c = children_written c.requires.trees.tree c.requires.room c.loop-end.invariant c.leaf_at-low.ensures c.loop-end-test.false
