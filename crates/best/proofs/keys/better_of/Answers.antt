-- `best::keys::better_of`.
use Rattle.std.proofs.Common.{sym, arith}
use Rattle.optimum.proofs.StoredKeys.{take_greater, take_equal, leave_less, leave_equal}
use Rattle.best.proofs.keys.better_of.Goals as goal

pub returns-then-a-b : goal.returns-then-a-b
returns-then-a-b c = sym (take_greater _ _ _ _ (omega arith))

pub returns-then-b-a : goal.returns-then-b-a
returns-then-b-a c = sym (leave_less _ _ _ _ (omega arith))

pub returns-then-b-a-2 : goal.returns-then-b-a-2
returns-then-b-a-2 c = sym (take_equal _ _ _ _ (omega arith) (omega arith))

pub returns-else-b-a-2 : goal.returns-else-b-a-2
returns-else-b-a-2 c = sym (leave_equal _ _ _ _ (omega arith) (omega arith))
