-- `best::scratch::entry`.
use Rattle.best.proofs.Rows.{entry_room, entry_joined}
use Rattle.best.proofs.scratch.entry.Goals as goal

pub joined-requires-clause-total_fits : goal.joined-requires-clause-total_fits
joined-requires-clause-total_fits c = (entry_room _ _ _ _ c.requires c.key_at-key.ensures c.best_in-best.ensures).0

pub joined-requires-clause-mask_fits : goal.joined-requires-clause-mask_fits
joined-requires-clause-mask_fits c = (entry_room _ _ _ _ c.requires c.key_at-key.ensures c.best_in-best.ensures).1

pub returns : goal.returns
returns c = entry_joined _ _ _ _ c.requires c.key_at-key.ensures c.best_in-best.ensures c.joined.ensures
