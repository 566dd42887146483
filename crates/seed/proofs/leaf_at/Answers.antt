use Rattle.std.proofs.Common.{sym, rules}
use Rattle.tree.specs.Nested.{leaf}
use Rattle.seed.proofs.Trees.{leaf_past}
use Rattle.seed.proofs.leaf_at.Goals as goal

pub returns-then-i-l : goal.returns-then-i-l
unfolding leaf
returns-then-i-l c = search rules

pub returns-else-i-l : goal.returns-else-i-l
returns-else-i-l c = sym (leaf_past _ _ c.if-i-l.false)
