use Rattle.std.proofs.Common.{arith}
use Rattle.tree.proofs.Texts.{read_few, read_all, read_whole, read_inside}
use Rattle.tree.proofs.read_known.Goals as goal

pub overflow_add-result : goal.overflow_add-result
overflow_add-result c = let few = read_few c.args.text.now c.requires _ _ c.read_run-end.ensures in omega arith

pub returns-then-at-text : goal.returns-then-at-text
returns-then-at-text c = read_all _ c.requires _ _ c.read_run-end.ensures c.if-at-text.true _ c.node_kinds.ensures

pub invariant_of-result : goal.invariant_of-result
invariant_of-result c = read_whole _ c.requires _ _ c.read_run-end.ensures c.if-at-text.true _ c.node_kinds.ensures

pub bounds-text-at : goal.bounds-text-at
bounds-text-at c = read_inside c.args.text.now c.requires _ _ c.read_run-end.ensures c.if-at-text.false
