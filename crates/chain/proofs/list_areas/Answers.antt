use Rattle.std.proofs.lemmas.Result.{err_from_is_err_and}
use Rattle.chain.specs.View.{view}
use Rattle.chain.specs.Handed.{session_fields}
use Rattle.chain.proofs.Judges.{number_known}
use Rattle.chain.proofs.Looks.{lists, lists_not}
use Rattle.chain.proofs.list_areas.Goals as goal

pub returns-in_err-judge_number : goal.returns-in_err-judge_number
returns-in_err-judge_number c =
    let p = err_from_is_err_and c.from_residual.result c.from_residual.ensures.1 in
    rw (p.1, p.2) (lists_not c.args.s c.args.number c.args.order c.in_err-judge_number.ensures.answer _)

pub overflow_sub-number : goal.overflow_sub-number
overflow_sub-number c = (number_known (view c.args.s) c.args.number c.in_ok-judge_number.ensures.answer).low

pub returns : goal.returns
returns c =
    rw (← c.s.view_is)
    (lists (session_fields c.s.inside) c.args.number c.args.order c.s.invariant (rw (← c.s.view_is) at c.in_ok-judge_number.ensures.answer) _ _ _ c.areas.ensures)
