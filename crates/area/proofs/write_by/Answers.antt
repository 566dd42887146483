use Rattle.area.proofs.Walks.{by_rising, by_paper, wrote_as, room_as}
use Rattle.area.proofs.write_by.Goals as goal

pub write-requires : goal.write-requires
write-requires c = record { few_g = c.requires.walkable.trees.few_g; few_h = c.requires.walkable.trees.few_h; room = room_as (by_rising _ _ _ _ _ c.in-RisingA.is) c.requires.room }

pub write-requires-in-Paper : goal.write-requires-in-Paper
write-requires-in-Paper c = record { walkable = c.requires.walkable; room = room_as (by_paper _ _ _ _ _ c.in-Paper.is) c.requires.room }

pub returns-in-RisingA : goal.returns-in-RisingA
returns-in-RisingA c = wrote_as _ _ _ _ (by_rising _ _ _ _ _ c.in-RisingA.is) c.write.ensures

pub returns-in-Paper : goal.returns-in-Paper
returns-in-Paper c = wrote_as _ _ _ _ (by_paper _ _ _ _ _ c.in-Paper.is) c.write-in-Paper.ensures
