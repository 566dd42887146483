use Rattle.std.proofs.Common.{refl, ap}
use Rattle.std.proofs.lemmas.Result.{err_from_is_err_and}
use Rattle.chain.specs.Fields.{SessionFields}
use Rattle.chain.proofs.Calls.{move_known, move_kept, moves, moves_not}
use Rattle.chain.proofs.changing.move_to.Goals as goal

pub returns-in_err-judge_move : goal.returns-in_err-judge_move
returns-in_err-judge_move c =
    let p = err_from_is_err_and c.from_residual.result c.from_residual.ensures.1 in
    let judged = c.in_err-judge_move.ensures in
    rw (p.1, p.2) (moves_not c.args.session.now c.args.number c.args.to judged.sound judged.answer refl)

pub overflow_sub-number : goal.overflow_sub-number
overflow_sub-number c =
    let judged = c.in_ok-judge_move.ensures in
    (move_known c.args.session.now c.args.number c.args.to judged.sound judged.answer refl).number.low

pub change-requires-clause-kept : goal.change-requires-clause-kept
change-requires-clause-kept c =
    let judged = c.in_ok-judge_move.ensures in
    move_kept c.args.session.now c.args.number c.args.to judged.sound judged.answer refl (rw (ap (λ (s : SessionFields). s.table) c.change.view_is) at c.moved.ensures)

pub change-requires-clause-room : goal.change-requires-clause-room
change-requires-clause-room c =
    let judged = c.in_ok-judge_move.ensures in
    (move_known c.args.session.now c.args.number c.args.to judged.sound judged.answer refl).room

pub returns : goal.returns
returns c =
    let judged = c.in_ok-judge_move.ensures in
    moves c.args.session.now c.args.number c.args.to judged.sound judged.answer refl (rw (ap (λ (s : SessionFields). s.table) c.change.view_is) at c.moved.ensures)
    c.change-2.ensures.state c.change-2.ensures.sound
