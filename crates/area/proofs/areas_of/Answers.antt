use Rattle.std.proofs.Common.{arith, sym}
use lib.Seq.{length-take-le}
use Rattle.tree.proofs.Trees.{tree_nodes}
use Rattle.seed.proofs.PairLists.{cut_first}
use Rattle.area.proofs.AreaParts.{held_walkable, held_as_many, held_areas, listed_as}
use Rattle.area.proofs.areas_of.Goals as goal

pub slice_bounds-list-end : goal.slice_bounds-list-end
slice_bounds-list-end c = cut_first _ _ c.pair_count-k.ensures

pub slice_bounds-list-end-2 : goal.slice_bounds-list-end-2
slice_bounds-list-end-2 c =
    let few = (tree_nodes _ c.node_count-n.ensures.read).1 in
    sym (length-take-le c.node_count-n.result c.gaps_of-gaps.result.q (omega (arith, c.node_count-n.ensures.count, c.gaps_of-gaps.auto.q)))

pub slice_bounds-list-end-3 : goal.slice_bounds-list-end-3
slice_bounds-list-end-3 c =
    let few = (tree_nodes _ c.node_count-m.ensures.read).1 in
    sym (length-take-le c.node_count-m.result c.gaps_of-gaps.result.t (omega (arith, c.node_count-m.ensures.count, c.gaps_of-gaps.auto.t)))

pub list-requires : goal.list-requires
list-requires c =
    rw (c.leaves.ensures.leaves, c.node_count-n.ensures.count, c.node_count-m.ensures.count) (record {
      walkable = held_walkable _ _ _ _ c.requires _ c.pair_count-k.ensures c.gaps_of-gaps.ensures;
      as_many = held_as_many _ _ _ _ c.requires _ c.pair_count-k.ensures c.gaps_of-gaps.ensures;
    })

pub returns : goal.returns
returns c =
    listed_as _ _ _ _ _ (held_areas _ _ _ _ c.requires _ c.pair_count-k.ensures c.gaps_of-gaps.ensures c.args.order)
    (rw (c.leaves.ensures.leaves, c.node_count-n.ensures.count, c.node_count-m.ensures.count) at c.list.ensures)
