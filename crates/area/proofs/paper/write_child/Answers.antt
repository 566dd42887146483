use Rattle.std.proofs.Common.{sym, ap}
use Rattle.write.proofs.Puts.{puts_as, puts_none}
use Rattle.seed.specs.AreaList.{bytes_of}
use Rattle.area.proofs.Walks.{child_in_span, child_outside, room_outside}
use Rattle.area.proofs.paper.write_child.Goals as goal

pub returns-then-g-child-eq0 : goal.returns-then-g-child-eq0
unfolding bytes_of
returns-then-g-child-eq0 c = puts_none c.requires.room (ap bytes_of (child_in_span _ _ _ _ c.if-g-child-eq0.true))

pub write_row-requires : goal.write_row-requires
write_row-requires c = record { row = c.requires.start; few_g = c.requires.few_g; few_h = c.requires.few_h; room = room_outside _ _ _ _ c.if-g-child-eq0.false c.requires.room }

pub returns : goal.returns
returns c = puts_as (ap bytes_of (sym (child_outside _ _ _ _ c.if-g-child-eq0.false))) c.write_row.ensures
