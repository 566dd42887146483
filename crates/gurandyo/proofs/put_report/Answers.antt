-- On the memory that it asks for a report is never refused.
use Rattle.std.proofs.Common.{arith}
use Rattle.report.proofs.Reports.{put_within, put_front}
use Rattle.gurandyo.proofs.put_report.Goals as goal

pub returns : goal.returns
returns c =
    let put = c.gurandyo_report.ensures in
    let room = c.requires in
    record { within = omega (arith, put_within put room.works room.holds); are = put_front put room.works room.holds }
