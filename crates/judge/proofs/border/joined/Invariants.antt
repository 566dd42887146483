use Rattle.std.proofs.Common.{◌≡◌, ◌<◌}
use Rattle.tree.specs.Nested.{leaf}
use Rattle.judge.proofs.Tops.{Downs}
use Rattle.judge.proofs.border.joined.Given as goal

-- The children passed are the tops from `left` on.
abbrev pub invariant-loop-end : goal.invariant-loop-end
invariant-loop-end l = (l.low ≡ leaf l.l l.x) × (l.left < l.count) × Downs l.l l.tops l.count l.x l.left l.end

abbrev pub decreases-loop-end : goal.decreases-loop-end
decreases-loop-end l = l.left
