use Rattle.std.proofs.Common.{sym, ◌∙◌}
use Rattle.judge.proofs.JudgeSteps.{judge_17, judge_18, judge_19, judge_none, said_err, said_ok}
use Rattle.judge.proofs.Roots.{risen_both}
use Rattle.judge.proofs.judge_risen.Goals as goal

pub returns-then-not-alike : goal.returns-then-not-alike
returns-then-not-alike c = said_err c.at.ensures (judge_17 _ _ _ _ (risen_both c.requires) (sym c.alike.ensures ∙ c.if-not-alike.true))

pub returns-then-not-rooted : goal.returns-then-not-rooted
returns-then-not-rooted c =
    said_err c.at-then-not-rooted.ensures
    (judge_18 _ _ _ _ (risen_both c.requires) (sym c.alike.ensures ∙ c.if-not-alike.false) (sym c.rooted.ensures ∙ c.if-not-rooted.true))

pub returns-then-not-both_bordered : goal.returns-then-not-both_bordered
returns-then-not-both_bordered c =
    said_err c.at-then-not-both_bordered.ensures
    (judge_19 _ _ _ _ (risen_both c.requires) (sym c.alike.ensures ∙ c.if-not-alike.false) (sym c.rooted.ensures ∙ c.if-not-rooted.false) (sym c.both_bordered.ensures ∙ c.if-not-both_bordered.true))

pub returns : goal.returns
returns c =
    said_ok
    (judge_none _ _ _ _ (risen_both c.requires) (sym c.alike.ensures ∙ c.if-not-alike.false) (sym c.rooted.ensures ∙ c.if-not-rooted.false) (sym c.both_bordered.ensures ∙ c.if-not-both_bordered.false))
