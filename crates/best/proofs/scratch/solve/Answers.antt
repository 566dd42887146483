-- `best::scratch::solve`.
use Rattle.best.proofs.Rows.{all_room, all_best}
use Rattle.best.proofs.scratch.solve.Goals as goal

pub fill_row-requires : goal.fill_row-requires
fill_row-requires c = all_room _ _ c.requires.posed _ c.requires.room _ c.fill_items.ensures

pub returns : goal.returns
returns c = all_best _ _ c.requires.posed _ c.requires.room _ c.fill_items.ensures _ c.fill_row.ensures
