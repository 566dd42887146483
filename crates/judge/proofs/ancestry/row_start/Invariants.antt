use Rattle.std.proofs.Common.{◌≡◌, get_or}
use Rattle.tree.specs.Nested.{leaf}
use Rattle.judge.proofs.Rows.{Row}
use Rattle.judge.proofs.ancestry.row_start.Given as goal

-- The nodes from `start` on are in the subtree.
abbrev pub invariant-loop-start : goal.invariant-loop-start
invariant-loop-start l = (l.low ≡ leaf l.l (get_or l.xs l.place 0)) × Row l.l l.xs l.place l.start

abbrev pub decreases-loop-start : goal.decreases-loop-start
decreases-loop-start l = l.start
