use Rattle.std.proofs.Common.{sym, arith, ◌∙◌}
use borrow.Author.Tests.{lt-leb}
use Rattle.seed.proofs.StandSteps.{above_no, above_by}
use Rattle.seed.proofs.above.Goals as goal

pub returns-then-leaf_at-j : goal.returns-then-leaf_at-j
returns-then-leaf_at-j c = sym (above_by _ _ _ (omega arith))

pub returns-else-leaf_at-j : goal.returns-else-leaf_at-j
returns-else-leaf_at-j c = lt-leb _ _ c.if-leaf_at-j.false ∙ sym (above_no _ _ _ (omega arith))
