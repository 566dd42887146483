use Rattle.table.proofs.Nodes.{nodes_none, nodes_clipped}
use Rattle.table.proofs.nodes_of.Goals as goal

pub returns-then-bounds-i : goal.returns-then-bounds-i
returns-then-bounds-i c = nodes_none c.args.nodes.now c.args.bounds.now _ c.if-bounds-i.true

pub returns : goal.returns
returns c = nodes_clipped c.args.nodes.now c.args.bounds.now _ _ _ c.bound_at.ensures c.bound_at-2.ensures c.min-to.ensures c.min-from.ensures
