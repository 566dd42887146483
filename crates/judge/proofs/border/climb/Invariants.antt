use Rattle.std.proofs.Common.{◌≡◌, ◌-◌, ◌+◌, ◌<◌, get_or}
use Rattle.judge.proofs.Climbs.{Climb}
use Rattle.judge.proofs.border.climb.Given as goal

-- The node before x is the last top.
abbrev pub invariant-loop-x : goal.invariant-loop-x
invariant-loop-x l = (l.next ≡ get_or l.xs (l.place + 1) 0) × (l.next < 256) × Climb l.l l.xs l.place l.tops l.count l.x

abbrev pub decreases-loop-x : goal.decreases-loop-x
decreases-loop-x l = l.next - l.x
