use Rattle.std.proofs.Common.{sym, ◌∙◌}
use borrow.Author.Tests.{ne_eqb}
use Rattle.seed.proofs.StandSteps.{level_differ, level_by}
use Rattle.seed.proofs.stands.level.Goals as goal

pub returns-then-a-b : goal.returns-then-a-b
returns-then-a-b c = rw c.side-a.ensures (sym (level_by _ _ _ _ _ (sym c.side-a.ensures ∙ c.if-a-b.true ∙ c.side-b.ensures)))

pub returns-else-a-b : goal.returns-else-a-b
returns-else-a-b c = ne_eqb _ _ c.if-a-b.false ∙ sym (level_differ _ _ _ _ _ (λ e. c.if-a-b.false (c.side-a.ensures ∙ e ∙ sym c.side-b.ensures)))
