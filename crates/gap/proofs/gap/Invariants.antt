-- The gap is that of the nodes to come, with what is counted before them.
use Rattle.std.proofs.Common.{length, ◌≤◌}
use Rattle.gap.proofs.GapSteps.{Counted}
use Rattle.gap.proofs.gap.Given as goal

abbrev pub invariant-loop-node : goal.invariant-loop-node
invariant-loop-node l = (l.node-index ≤ length l.nodes) × Counted l.l l.nodes l.i l.node-index l.gap
