use mir.Facts.{to_z-of_z}
use Rattle.table.proofs.Tables.{rows_same, rows_score}
use Rattle.table.proofs.rescored.Goals as goal

pub returns-then-at-table : goal.returns-then-at-table
returns-then-at-table c = rw (to_z-of_z c.ranges.score) (rows_score _ _ _ c.requires c.if-at-table.true)

pub returns-else-at-table : goal.returns-else-at-table
returns-else-at-table c = rows_same _ _ _ c.requires c.if-at-table.false
