use Rattle.std.proofs.Common.{sym, arith}
use Rattle.seed.proofs.Sides.{side_0, side_1, side_2, side_3}
use Rattle.seed.proofs.side.Goals as goal

pub returns-then-a-leaf_at : goal.returns-then-a-leaf_at
returns-then-a-leaf_at c = sym (side_0 _ _ _ (omega arith))

pub returns-then-x-leaf_at : goal.returns-then-x-leaf_at
returns-then-x-leaf_at c = sym (side_1 _ _ _ (omega arith) (omega arith))

pub returns-then-x-a : goal.returns-then-x-a
returns-then-x-a c = sym (side_2 _ _ _ (omega arith) (omega arith) c.if-x-a.true)

pub returns : goal.returns
returns c = sym (side_3 _ _ _ (omega arith) (omega arith) c.if-x-a.false)
