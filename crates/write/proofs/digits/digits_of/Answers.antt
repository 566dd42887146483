-- `write::digits::digits_of`: one digit more stands, and at the end all of them.
use Rattle.std.proofs.Common.{arith}
use Rattle.std.proofs.Math.ListN.{length-set}
use Rattle.write.proofs.Decimals.{spelled_more, spelled_all}
use Rattle.write.proofs.digits.digits_of.Goals as goal

pub loop-rest-preserved : goal.loop-rest-preserved
loop-rest-preserved c = spelled_more c.loop-rest.invariant (omega arith)

pub returns : goal.returns
returns c = (c.loop-rest.invariant.within, simp length-set c.loop-rest.invariant.long, spelled_all c.loop-rest.invariant (omega arith))
