use Rattle.area.proofs.Placed.{listed_none, held_there, listed_there}
use Rattle.area.proofs.areas.Goals as goal

pub returns-then-table-at : goal.returns-then-table-at
returns-then-table-at c = listed_none c.args.q c.args.t c.args.table _ c.args.order _ c.if-table-at.true

pub areas_of-requires : goal.areas_of-requires
areas_of-requires c = held_there _ _ _ _ c.requires c.if-table-at.false c.nodes_of-qs.ensures c.nodes_of-ts.ensures

pub returns : goal.returns
returns c = listed_there _ _ _ _ c.requires c.if-table-at.false c.nodes_of-qs.ensures c.nodes_of-ts.ensures c.args.order c.areas_of.ensures
