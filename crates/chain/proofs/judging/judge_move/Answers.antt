use Rattle.std.proofs.Common.{ap, ◌∙◌}
use Rattle.chain.specs.View.{view}
use Rattle.chain.specs.Fields.{SessionFields}
use Rattle.chain.proofs.Judges.{number_known, presence_refused, presence_passed}
use Rattle.chain.proofs.judging.judge_move.Goals as goal

pub overflow_sub-number : goal.overflow_sub-number
overflow_sub-number c = (number_known (view c.args.session.now) c.args.number c.in_ok-judge_number.ensures.answer).low

pub returns-then-summary_at-to-clause-answer : goal.returns-then-summary_at-to-clause-answer
returns-then-summary_at-to-clause-answer c =
    rw c.at.ensures
    (presence_refused (view c.args.session.now) c.args.number c.in_ok-judge_number.ensures.answer c.args.to (rw (ap (λ (s : SessionFields). s.table) c.session.view_is) at c.summary_at.ensures) c.if-summary_at-to.true)

pub returns-clause-answer : goal.returns-clause-answer
returns-clause-answer c =
    (rw (ap (λ (s : SessionFields). s.changes) c.session.view_is) at c.judge_count.ensures)
    ∙ presence_passed (view c.args.session.now) c.args.number c.in_ok-judge_number.ensures.answer c.args.to (rw (ap (λ (s : SessionFields). s.table) c.session.view_is) at c.summary_at.ensures) c.if-summary_at-to.false
