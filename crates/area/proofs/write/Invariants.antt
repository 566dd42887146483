-- The areas of the rows passed are written.
use Rattle.write.specs.Puts.{Puts}
use Rattle.seed.specs.AreaList.{bytes_of}
use Rattle.area.specs.inner.Boxes.{boxes_below}
use Rattle.area.proofs.write.Given as goal

abbrev pub invariant-loop-a : goal.invariant-loop-a
invariant-loop-a l = Puts (bytes_of (boxes_below l.g l.h l.a)) 0 l.fn.out l.out l.at
