use Rattle.std.proofs.Common.{sym, ap, length}
use Rattle.area.proofs.AreaSteps.{row_none, row_length}
use Rattle.area.proofs.count_row.Goals as goal

pub returns-then-begins : goal.returns-then-begins
returns-then-begins c = sym (row_length _ _ _ _ c.first_like-c.ensures (sym c.if-begins.ensures))

pub returns-else-begins : goal.returns-else-begins
returns-else-begins c = ap length (sym (row_none _ _ _ _ c.first_like-c.ensures (sym c.if-begins.ensures)))
