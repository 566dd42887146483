use Rattle.std.proofs.Common.{ℕ, ◌≤◌, ◌<◌, get_or}
use Rattle.judge.proofs.border.kept.Given as goal

-- The tops from `left` on do not lie before the number.
abbrev pub invariant-loop-left : goal.invariant-loop-left
invariant-loop-left l = (l.left ≤ l.count) × ((p : ℕ) → l.left ≤ p → p < l.count → l.low ≤ get_or l.tops p 0)

abbrev pub decreases-loop-left : goal.decreases-loop-left
decreases-loop-left l = l.left
