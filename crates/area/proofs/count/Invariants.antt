-- The areas of the rows passed are counted.
use Rattle.std.proofs.Common.{length, ◌≡◌}
use Rattle.area.specs.inner.Boxes.{boxes_below}
use Rattle.area.proofs.count.Given as goal

abbrev pub invariant-loop-a : goal.invariant-loop-a
invariant-loop-a l = l.count ≡ length (boxes_below l.g l.h l.a)
