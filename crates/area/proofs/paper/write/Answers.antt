use Rattle.std.proofs.Common.{arith}
use Rattle.area.proofs.Walks.{nodes_all, node_room, node_written, nodes_written}
use Rattle.area.proofs.paper.write.Goals as goal

pub loop-node-init : goal.loop-node-init
loop-node-init c = nodes_all _ _ _ _

pub write_under-at-requires : goal.write_under-at-requires
write_under-at-requires c = record { trees = c.requires.walkable.trees; room = node_room c.requires.room c.loop-node.invariant c.loop-node-test.true; node = c.requires.walkable.inside _ c.loop-node-test.true }

pub loop-node-preserved : goal.loop-node-preserved
loop-node-preserved c = node_written c.requires.room c.loop-node.invariant c.loop-node-test.true c.write_under-at.ensures

pub returns : goal.returns
returns c = nodes_written c.requires.room c.loop-node.invariant (omega arith)
