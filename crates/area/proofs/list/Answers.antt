use Rattle.std.proofs.Common.{sym, ◌∙◌, arith}
use Rattle.area.proofs.AreaSteps.{count_small, list_refused, list_accepted}
use Rattle.area.proofs.Walks.{by_count, room_all}
use Rattle.area.proofs.list.Goals as goal

pub overflow_mul-count : goal.overflow_mul-count
overflow_mul-count c = let u = count_small _ _ _ _ c.count-count.ensures in omega (arith, c.requires.walkable.trees.few_g)

pub returns-then-out-count : goal.returns-then-out-count
returns-then-out-count c = rw c.at.ensures (list_refused _ _ _ (c.count-count.ensures ∙ sym (by_count _ _ _ _ c.args.order c.requires.as_many)) c.if-out-count.true)

pub write_by-requires : goal.write_by-requires
write_by-requires c = record { walkable = c.requires.walkable; room = room_all _ _ _ (c.count-count.ensures ∙ sym (by_count _ _ _ _ c.args.order c.requires.as_many)) c.if-out-count.false }

pub returns : goal.returns
returns c = list_accepted _ _ _ (c.count-count.ensures ∙ sym (by_count _ _ _ _ c.args.order c.requires.as_many)) _ c.if-out-count.false c.write_by.ensures
