-- Of the children, those from `end` down are left.
use Rattle.area.proofs.Walks.{ChildrenLeft}
use Rattle.area.proofs.paper.write_under.Given as goal

abbrev pub invariant-loop-end : goal.invariant-loop-end
invariant-loop-end l = ChildrenLeft l.l l.g l.h l.x l.at l.fn.out l.end l.next l.out

abbrev pub decreases-loop-end : goal.decreases-loop-end
decreases-loop-end l = l.end
