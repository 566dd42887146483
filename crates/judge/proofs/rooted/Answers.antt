use Rattle.std.proofs.Common.{sym, ◌∙◌}
use borrow.Author.Tests.{lt-leb}
use Rattle.judge.proofs.Roots.{rooted_none, rooted_no, rooted-by}
use Rattle.judge.proofs.rooted.Goals as goal

pub returns-then-n-eq0 : goal.returns-then-n-eq0
returns-then-n-eq0 c = sym (rooted_none _ _ _ _ c.if-n-eq0.true)

pub returns-then-leaf_at-qs : goal.returns-then-leaf_at-qs
returns-then-leaf_at-qs c = sym (rooted-by c.requires c.if-n-eq0.false _ _ c.leaf_at.ensures c.leaf_at-then-leaf_at-qs.ensures c.if-leaf_at-qs.true)

pub returns-else-leaf_at-qs : goal.returns-else-leaf_at-qs
returns-else-leaf_at-qs c = lt-leb _ _ c.if-leaf_at-qs.false ∙ sym (rooted_no c.requires c.if-n-eq0.false _ c.leaf_at.ensures c.if-leaf_at-qs.false)
