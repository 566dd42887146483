-- `line::put_member`: each arm knows whether the chain has the number.
use Rattle.std.proofs.Common.{ap, arith}
use Rattle.write.proofs.Puts.{puts_none}
use Rattle.lines.specs.Lines.{member}
use Rattle.lines.proofs.line.put_member.Goals as goal

pub put_numbered-requires : goal.put_numbered-requires
unfolding member
put_numbered-requires c = let room = rw c.if-has.true at c.requires in record { fits = omega (arith, room) }

pub returns-then-has : goal.returns-then-has
unfolding member
returns-then-has c = rw c.if-has.true c.put_numbered.ensures

pub returns-else-has : goal.returns-else-has
unfolding member
returns-else-has c = puts_none c.requires (ap (member c.args.number) c.if-has.false)
