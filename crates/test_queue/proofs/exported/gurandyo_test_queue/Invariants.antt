-- The calls are as many as stand whole in the input and fit the output, which keeps its length.
use Rattle.std.proofs.Common.{◌*◌, ◌≤◌, length}
use Rattle.test_queue.proofs.exported.gurandyo_test_queue.Given as goal

abbrev pub invariant-loop-k : goal.invariant-loop-k
invariant-loop-k l = (l.whole * 5 ≤ length l.calls) × (l.whole * 5 ≤ length l.out)
