-- The nodes from the place reached on are left.
use Rattle.area.proofs.Walks.{NodesLeft}
use Rattle.area.proofs.paper.write.Given as goal

abbrev pub invariant-loop-node : goal.invariant-loop-node
invariant-loop-node l = NodesLeft l.l l.nodes l.g l.h l.fn.out l.node-index l.at l.out
