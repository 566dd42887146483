use mir.Facts.{to_z-of_z}
use Rattle.std.proofs.Common.{refl, ap}
use Rattle.std.proofs.lemmas.Result.{err_from_is_err_and}
use Rattle.chain.specs.Fields.{SessionFields}
use Rattle.chain.proofs.Calls.{score_known, score_kept, rescores, rescores_not}
use Rattle.chain.proofs.Session.rescore.Goals as goal

pub returns-in_err-judge_rescore : goal.returns-in_err-judge_rescore
returns-in_err-judge_rescore c =
    let p = err_from_is_err_and c.from_residual.result c.from_residual.ensures.1 in
    let judged = c.in_err-judge_rescore.ensures in
    rw (p.1, p.2) (rescores_not c.args.self.now c.args.number c.args.score judged.sound (rw (to_z-of_z c.ranges.score) at judged.answer) refl)

pub overflow_sub-number : goal.overflow_sub-number
overflow_sub-number c =
    let judged = c.in_ok-judge_rescore.ensures in
    (score_known c.args.self.now c.args.number c.args.score judged.sound (rw (to_z-of_z c.ranges.score) at judged.answer) refl).number.low

pub change-requires-clause-kept : goal.change-requires-clause-kept
change-requires-clause-kept c =
    let judged = c.in_ok-judge_rescore.ensures in
    score_kept c.args.self.now c.args.number c.args.score judged.sound (rw (to_z-of_z c.ranges.score) at judged.answer) refl
    (rw (to_z-of_z c.ranges.score, ap (λ (s : SessionFields). s.table) c.change.view_is) at c.rescored.ensures)

pub change-requires-clause-room : goal.change-requires-clause-room
change-requires-clause-room c =
    let judged = c.in_ok-judge_rescore.ensures in
    (score_known c.args.self.now c.args.number c.args.score judged.sound (rw (to_z-of_z c.ranges.score) at judged.answer) refl).room

pub returns : goal.returns
returns c =
    let judged = c.in_ok-judge_rescore.ensures in
    rescores c.args.self.now c.args.number c.args.score judged.sound (rw (to_z-of_z c.ranges.score) at judged.answer) refl
    (rw (to_z-of_z c.ranges.score, ap (λ (s : SessionFields). s.table) c.change.view_is) at c.rescored.ensures) c.change-2.ensures.state c.change-2.ensures.sound
