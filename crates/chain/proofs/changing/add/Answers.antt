use mir.Facts.{to_z-of_z}
use Rattle.std.proofs.lemmas.Result.{err_from_is_err_and}
use Rattle.chain.specs.Handed.{session_fields}
use Rattle.chain.proofs.Calls.{add_room, adds, adds_not, adds_no_more, added_number}
use Rattle.chain.proofs.changing.add.Goals as goal

pub returns-in_err-table-clause-does : goal.returns-in_err-table-clause-does
returns-in_err-table-clause-does c =
    let p = err_from_is_err_and c.from_residual.result c.from_residual.ensures.1 in
    rw (← c.session.view_is, p.1, p.2) (adds_not (session_fields c.session.inside) _ c.args.score c.session.invariant (rw (to_z-of_z c.ranges.score) at c.in_err-table.ensures))

pub returns-in_err-judge_count-clause-does : goal.returns-in_err-judge_count-clause-does
returns-in_err-judge_count-clause-does c =
    let p = err_from_is_err_and c.from_residual-in_err-judge_count.result c.from_residual-in_err-judge_count.ensures.1 in
    rw (← c.session.view_is, p.1, p.2)
    (adds_no_more (session_fields c.session.inside) _ c.args.score c.session.invariant (rw (to_z-of_z c.ranges.score) at c.in_ok-table.ensures) c.in_err-judge_count.ensures)

pub change-requires-clause-room : goal.change-requires-clause-room
change-requires-clause-room c =
    rw (← c.session.view_is) (add_room (session_fields c.session.inside) _ c.args.score c.session.invariant (rw (to_z-of_z c.ranges.score) at c.in_ok-table.ensures) c.in_ok-judge_count.ensures)

pub returns-clause-does : goal.returns-clause-does
returns-clause-does c =
    rw (← c.session.view_is) (adds (session_fields c.session.inside) _ c.args.score c.session.invariant (rw (to_z-of_z c.ranges.score) at c.in_ok-table.ensures) c.in_ok-judge_count.ensures
    (rw (← c.session.view_is) at c.change.ensures.state) c.change.ensures.sound)

pub returns-clause-number : goal.returns-clause-number
returns-clause-number c =
    rw (← c.session.view_is) (added_number (session_fields c.session.inside) _ c.args.score c.session.invariant (rw (to_z-of_z c.ranges.score) at c.in_ok-table.ensures) c.in_ok-judge_count.ensures)
