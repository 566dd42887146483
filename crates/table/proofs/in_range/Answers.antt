use mir.Facts.{to_z-of_z}
use Rattle.table.specs.Rows.{in_range}
use Rattle.table.proofs.in_range.Goals as goal

pub returns-then-score-geminus1000000 : goal.returns-then-score-geminus1000000
unfolding in_range
returns-then-score-geminus1000000 c =
    let f = c.ranges.score in
    let h = rw (to_z-of_z f) at c.if-score-geminus1000000.true in
    rw (to_z-of_z f, h)

pub returns-else-score-geminus1000000 : goal.returns-else-score-geminus1000000
unfolding in_range
returns-else-score-geminus1000000 c =
    let h = rw (to_z-of_z c.ranges.score) at c.if-score-geminus1000000.false in
    rw (to_z-of_z c.ranges.score, h)
