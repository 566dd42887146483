use Rattle.tree.proofs.Trees.{tree_nested}
use Rattle.judge.proofs.judge.Goals as goal

pub judge_on-requires : goal.judge_on-requires
judge_on-requires c =
    (rw c.leaves.ensures.leaves (tree_nested c.args.q c.leaves.ensures.read), rw c.leaves-2.ensures.leaves (tree_nested c.args.t c.leaves-2.ensures.read))
