use Rattle.std.proofs.Common.{sym, ◌∙◌}
use Rattle.seed.specs.Tests.{bordered}
use Rattle.judge.proofs.Roots.{listed_q, listed_t, whole_no, whole_by}
use Rattle.judge.proofs.both_bordered.Goals as goal

pub bordered-requires : goal.bordered-requires
bordered-requires c = listed_q c.requires

pub bordered-requires-then-bordered : goal.bordered-requires-then-bordered
bordered-requires-then-bordered c = listed_t c.requires

pub returns-then-bordered : goal.returns-then-bordered
returns-then-bordered c = c.bordered-then-bordered.ensures ∙ sym (whole_by _ _ c.requires.risen.same (bordered _) (bordered _) (sym c.bordered.ensures ∙ c.if-bordered.true))

pub returns-else-bordered : goal.returns-else-bordered
returns-else-bordered c = c.if-bordered.false ∙ sym (whole_no _ _ c.requires.risen.same (bordered _) (bordered _) (sym c.bordered.ensures ∙ c.if-bordered.false))
