use Rattle.std.proofs.Common.{sym, ap, ◌∙◌}
use Rattle.answer.specs.Refusal.{result_of}
use Rattle.answer.specs.Answer.{Answer}
use Rattle.seed.specs.Tests.{nodes_in, same_kinds}
use Rattle.seed.proofs.PairLists.{cut_first, cut_second}
use Rattle.judge.proofs.JudgeSteps.{judge_15, judge_25, judge_pattern, judge_16, said_err}
use Rattle.judge.proofs.Roots.{pairs_cut, risen-cut}
use Rattle.judge.proofs.judge_on.Goals as goal

pub returns-then-not-nodes_in : goal.returns-then-not-nodes_in
unfolding nodes_in
returns-then-not-nodes_in c = said_err c.at.ensures (judge_15 _ _ _ _ _ _ (sym c.nodes_in.ensures ∙ c.if-not-nodes_in.true))

pub returns-then-not-same_kinds : goal.returns-then-not-same_kinds
unfolding nodes_in same_kinds
returns-then-not-same_kinds c =
    said_err c.at-then-not-same_kinds.ensures
    (judge_25 _ _ _ _ _ _ (sym c.nodes_in.ensures ∙ c.if-not-nodes_in.false) (sym c.same_kinds.ensures ∙ c.if-not-same_kinds.true))

pub returns-then-not-both_rise : goal.returns-then-not-both_rise
unfolding nodes_in same_kinds
returns-then-not-both_rise c =
    said_err c.at-then-not-both_rise.ensures
    (judge_pattern _ _ _ _ _ _ (sym c.nodes_in.ensures ∙ c.if-not-nodes_in.false) (sym c.same_kinds.ensures ∙ c.if-not-same_kinds.false)
    ∙ judge_16 _ _ _ _ (sym c.both_rise.ensures ∙ c.if-not-both_rise.true))

pub slice_bounds-judge_risen-end : goal.slice_bounds-judge_risen-end
slice_bounds-judge_risen-end c = cut_first _ _ c.pair_count-count.ensures

pub slice_bounds-judge_risen-end-2 : goal.slice_bounds-judge_risen-end-2
slice_bounds-judge_risen-end-2 c = cut_second _ _ c.pair_count-count.ensures

pub judge_risen-requires : goal.judge_risen-requires
unfolding nodes_in
judge_risen-requires c =
    risen-cut _ _ c.pair_count-count.ensures c.requires.0 c.requires.1
    (sym c.nodes_in.ensures ∙ c.if-not-nodes_in.false)
    (sym c.both_rise.ensures ∙ c.if-not-both_rise.false)

pub returns : goal.returns
unfolding nodes_in same_kinds
returns c =
    c.judge_risen.ensures
    ∙ rw (pairs_cut _ _ c.pair_count-count.ensures)
    (ap (λ (a : Answer). result_of a tt)
    (sym (judge_pattern _ _ _ _ _ _ (sym c.nodes_in.ensures ∙ c.if-not-nodes_in.false) (sym c.same_kinds.ensures ∙ c.if-not-same_kinds.false))))
