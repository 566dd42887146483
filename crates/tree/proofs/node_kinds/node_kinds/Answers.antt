use Rattle.std.proofs.Common.{rules}
use Rattle.tree.proofs.NodeKinds.{told-turn, told_end}
use Rattle.tree.proofs.node_kinds.node_kinds.Goals as goal

pub loop-byte-preserved : goal.loop-byte-preserved
loop-byte-preserved c = told-turn _ c.requires.short _ _ c.loop-byte.invariant c.loop-byte-test.true c.told.ensures (search rules)

pub returns : goal.returns
returns c = told_end c.loop-byte.invariant c.loop-byte-test.false
