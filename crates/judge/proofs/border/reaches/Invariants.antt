use Rattle.std.proofs.Common.{length, ◌+◌, ◌≤◌}
use Rattle.judge.specs.inner.Steps.{Reaching}
use Rattle.judge.proofs.border.reaches.Given as goal

-- What is found is so of the nodes passed.
abbrev pub invariant-loop-leaf : goal.invariant-loop-leaf
invariant-loop-leaf l = (l.leaf-index ≤ length l.run) × Reaching l.l l.from (l.from + l.leaf-index) l.node l.found
