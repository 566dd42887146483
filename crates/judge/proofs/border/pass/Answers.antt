use Rattle.std.proofs.Common.{arith}
use Rattle.judge.proofs.Tops.{tops_ups}
use Rattle.judge.proofs.Climbs.{pass_listed}
use Rattle.judge.proofs.border.pass.Goals as goal

pub kept-left-requires-clause-rising : goal.kept-left-requires-clause-rising
kept-left-requires-clause-rising c =
    let pre = c.requires in
    tops_ups pre.listed.tree pre.past.highest

pub kept-left-requires-clause-within : goal.kept-left-requires-clause-within
kept-left-requires-clause-within c =
    let pre = c.requires in
    omega (arith, pre.past.highest.few, c.type_inv.xs c.args.place)

pub climb-requires : goal.climb-requires
climb-requires c =
    let pre = c.requires in
    pass_listed pre.listed _ pre.more pre.past (omega (arith, c.type_inv.xs c.args.place)) (rw c.leaf_at.ensures at c.kept-left.ensures)
