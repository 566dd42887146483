-- `line::put_members`: one number less is still to be put.
use Rattle.std.proofs.Common.{arith, rules}
use Rattle.write.proofs.Puts.{left_room, left_less, left_none, room_first}
use Rattle.lines.proofs.Members.{members_more, members_none}
use Rattle.lines.proofs.line.put_members.Goals as goal

pub put_member-next-requires : goal.put_member-next-requires
put_member-next-requires c = room_first (left_room c.loop-i.invariant c.requires) _ (members_more _ _ (search rules))

pub loop-i-preserved : goal.loop-i-preserved
loop-i-preserved c = left_less c.loop-i.invariant c.requires (members_more _ _ (search rules)) c.put_member-next.ensures

pub returns : goal.returns
returns c = left_none c.loop-i.invariant c.requires (members_none _ _ (search rules))
