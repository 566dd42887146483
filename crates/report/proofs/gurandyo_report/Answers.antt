-- The room holds every report.
use Rattle.std.proofs.Common.{arith}
use Rattle.report.proofs.Reports.{answered_fits, report_put, report_denied, report_not_put}
use Rattle.report.proofs.gurandyo_report.Goals as goal

pub returns-then-out-lt-ROOM : goal.returns-then-out-lt-ROOM
returns-then-out-lt-ROOM c = report_not_put _ _ _ (omega arith)

pub put_lines-requires : goal.put_lines-requires
put_lines-requires c = answered_fits c.in-Ok.ensures

pub returns-in-Ok : goal.returns-in-Ok
returns-in-Ok c = report_put c.in-Ok.ensures (omega arith) c.put_lines.ensures

pub returns-in-Err : goal.returns-in-Err
returns-in-Err c = report_denied _ c.in-Err.ensures (omega arith)
