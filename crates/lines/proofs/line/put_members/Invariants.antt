-- `line::put_members`: the numbers from i + 1 on are still to be put.
use Rattle.write.proofs.Puts.{Left}
use Rattle.lines.specs.Lines.{members}
use Rattle.lines.proofs.Members.{members_from}
use Rattle.lines.proofs.line.put_members.Given as goal

abbrev pub invariant-loop-i : goal.invariant-loop-i
invariant-loop-i l = Left (members 1 l.fn.chain) l.at l.initial.out (members_from l.fn.chain l.i) l.next l.out
