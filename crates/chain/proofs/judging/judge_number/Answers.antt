use Rattle.std.proofs.Common.{sym}
use Rattle.chain.specs.Handed.{session_fields}
use Rattle.chain.proofs.Judges.{number_refused, number_accepted}
use Rattle.chain.proofs.judging.judge_number.Goals as goal

pub returns-then-not-given_out-clause-answer : goal.returns-then-not-given_out-clause-answer
returns-then-not-given_out-clause-answer c =
    rw (← c.session.view_is) (rw c.at.ensures (number_refused (session_fields c.session.inside).table c.args.number (sym c.if-not-given_out.ensures)))

pub returns-clause-answer : goal.returns-clause-answer
returns-clause-answer c =
    rw (← c.session.view_is) (number_accepted (session_fields c.session.inside).table c.args.number (sym c.if-not-given_out.ensures))
