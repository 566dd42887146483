-- No node from k on has the gap.
use Rattle.std.proofs.Common.{length, ◌≡◌}
use Rattle.seed.specs.AreaList.{last_below}
use Rattle.area.specs.inner.Boxes.{like}
use Rattle.area.proofs.last_like.Given as goal

abbrev pub invariant-loop-k : goal.invariant-loop-k
invariant-loop-k l = last_below (like l.x l.g) (length l.g) ≡ last_below (like l.x l.g) l.k
