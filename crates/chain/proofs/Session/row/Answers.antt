use Rattle.std.proofs.lemmas.Result.{err_from_is_err_and}
use Rattle.chain.specs.View.{view}
use Rattle.chain.specs.Handed.{session_fields}
use Rattle.chain.proofs.Judges.{number_known}
use Rattle.chain.proofs.Looks.{shows, shows_not}
use Rattle.chain.proofs.Session.row.Goals as goal

pub returns-in_err-judge_number : goal.returns-in_err-judge_number
returns-in_err-judge_number c =
    let p = err_from_is_err_and c.from_residual.result c.from_residual.ensures.1 in
    rw (p.1, p.2) (shows_not c.args.self c.args.number c.in_err-judge_number.ensures.answer)

pub overflow_sub-number : goal.overflow_sub-number
overflow_sub-number c = (number_known (view c.args.self) c.args.number c.in_ok-judge_number.ensures.answer).low

pub returns : goal.returns
returns c =
    rw (← c.self.view_is)
    (shows (session_fields c.self.inside) c.args.number (rw (← c.self.view_is) at c.in_ok-judge_number.ensures.answer) c.summary_at.ensures)
