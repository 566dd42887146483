use Rattle.seed.proofs.PairLists.{cut_first, cut_second}
use Rattle.gap.proofs.GapParts.{leaves_few, pairs_few, both_gaps}
use Rattle.gap.proofs.gaps_of.Goals as goal

pub slice_bounds-gaps_in-end : goal.slice_bounds-gaps_in-end
slice_bounds-gaps_in-end c = cut_first _ _ c.pair_count-count.ensures

pub gaps_in-requires : goal.gaps_in-requires
gaps_in-requires c =
    rw c.leaves.ensures.leaves (record { leaves_few = leaves_few _ c.leaves.ensures.read; nodes_few = (pairs_few _ _ _ _ c.requires _ c.pair_count-count.ensures).0 })

pub slice_bounds-gaps_in-end-2 : goal.slice_bounds-gaps_in-end-2
slice_bounds-gaps_in-end-2 c = cut_second _ _ c.pair_count-count.ensures

pub gaps_in-requires-2 : goal.gaps_in-requires-2
gaps_in-requires-2 c =
    rw c.leaves-2.ensures.leaves (record { leaves_few = leaves_few _ c.leaves-2.ensures.read; nodes_few = (pairs_few _ _ _ _ c.requires _ c.pair_count-count.ensures).1 })

pub returns : goal.returns
returns c =
    both_gaps c.args.q c.args.t _ _ _ c.pair_count-count.ensures
    (rw c.leaves.ensures.leaves at c.gaps_in.ensures) (rw c.leaves-2.ensures.leaves at c.gaps_in-2.ensures)
