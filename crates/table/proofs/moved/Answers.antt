use Rattle.table.proofs.Tables.{rows_same, rows_presence}
use Rattle.table.proofs.moved.Goals as goal

pub returns-then-at-table : goal.returns-then-at-table
returns-then-at-table c = rows_presence _ _ _ c.requires c.if-at-table.true

pub returns-else-at-table : goal.returns-else-at-table
returns-else-at-table c = rows_same _ _ _ c.requires c.if-at-table.false
