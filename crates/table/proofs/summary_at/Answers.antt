use Rattle.std.proofs.Common.{◌≡◌, get_or, pos, w32, rules}
use mir.Val.{to_z, of_z}
use Rattle.table.proofs.Tables.{summary_past, summary_there}
use Rattle.table.proofs.summary_at.Goals as goal

pub returns-then-table-at : goal.returns-then-table-at
returns-then-table-at c = summary_past _ _ c.if-table-at.true

-- A score is read from its bits.
pub returns : goal.returns
returns c =
    let read : to_z w32 (of_z w32 (get_or c.args.table.scores c.args.at (pos 0))) ≡ get_or c.args.table.scores c.args.at (pos 0) = search rules in
    rw read (summary_there c.args.table _ c.requires c.if-table-at.false c.last_at.ensures c.count_at.ensures)
