use Rattle.std.proofs.Common.{sym, ap, not, ◌∙◌}
use borrow.Author.Tests.{eq-eqb, le-ltb}
use Rattle.area.proofs.AreaSteps.{begins_out, begins_first, begins_by}
use Rattle.area.proofs.begins.Goals as goal

pub returns-then-a-eq0 : goal.returns-then-a-eq0
returns-then-a-eq0 c = eq-eqb _ 0 c.if-a-eq0.true ∙ sym (begins_first _ _ _ _ c.if-c-h.true c.if-a-eq0.true)

pub returns-else-a-eq0 : goal.returns-else-a-eq0
returns-else-a-eq0 c = ap not c.meets.ensures ∙ sym (begins_by _ _ _ _ c.if-c-h.true c.if-a-eq0.false)

pub returns-else-c-h : goal.returns-else-c-h
returns-else-c-h c = le-ltb _ _ c.if-c-h.false ∙ sym (begins_out _ _ _ _ c.if-c-h.false)
