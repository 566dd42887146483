-- `best::scratch::fill_items`: the item at y has its key.
use Rattle.std.proofs.Common.{pos, FitsSigned, w32, get_or, rules, ◌<◌}
use mir.Facts.{to_z-of_z}
use Rattle.best.proofs.Rows.{items_start, item_room, item_small, item_turn}
use Rattle.best.proofs.scratch.fill_items.Goals as goal

pub loop-y-init : goal.loop-y-init
loop-y-init c = items_start _ _ c.requires.posed _

pub fill_row-under-requires : goal.fill_row-under-requires
fill_row-under-requires c = item_room _ _ c.requires.posed _ c.requires.room _ c.loop-y-test.true _ c.loop-y.invariant

pub clipped-key-requires-clause-total_few : goal.clipped-key-requires-clause-total_few
clipped-key-requires-clause-total_few c = (item_small _ _ c.requires.posed _ c.requires.room _ c.loop-y-test.true _ c.loop-y.invariant _ _ _ c.fill_row-under.ensures).0

pub clipped-key-requires-clause-mask_fits : goal.clipped-key-requires-clause-mask_fits
clipped-key-requires-clause-mask_fits c =
    let few : get_or c.args.numbers.now c.loop-y.y 0 < 64 = search rules in
    rw (c.bit.ensures.one few) (item_small _ _ c.requires.posed _ c.requires.room _ c.loop-y-test.true _ c.loop-y.invariant _ _ _ c.fill_row-under.ensures).1

pub loop-y-preserved : goal.loop-y-preserved
loop-y-preserved c =
    let fits : FitsSigned w32 (get_or c.args.scores.now (get_or c.args.numbers.now c.loop-y.y 0) (pos 0)) = search rules in
    let few : get_or c.args.numbers.now c.loop-y.y 0 < 64 = search rules in
    item_turn _ _ c.requires.posed _ c.requires.room _ c.loop-y-test.true _ c.loop-y.invariant _ _ _ c.fill_row-under.ensures _ _ _ (rw (to_z-of_z fits, c.bit.ensures.one few) at c.clipped-key.ensures) c.put.ensures
