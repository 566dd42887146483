use Rattle.std.proofs.Common.{◌≤◌, ◌-◌, length, get_or}
use Rattle.judge.specs.inner.Steps.{Past}
use Rattle.judge.proofs.border.bordered.Given as goal

-- The nodes before the listed one are passed.
abbrev pub invariant-loop-place : goal.invariant-loop-place
invariant-loop-place l = (l.place - 1 ≤ length l.xs - 1) × Past l.l l.xs l.tops l.count (get_or l.xs (l.place - 1) 0)
