-- `lines::refusal`: the array has room for every line.
use Rattle.std.proofs.Common.{arith}
use Rattle.answer.specs.Answer.{said}
use Rattle.answer.specs.Refusal.{answer_in}
use Rattle.write.proofs.Zeros.{zeros_room}
use Rattle.lines.specs.Lines.{lines_room}
use Rattle.lines.proofs.Lengths.{length_refusal}
use Rattle.lines.proofs.Printed.{puts_printed}
use Rattle.lines.proofs.refusal.Goals as goal

pub put_refusal-length-requires : goal.put_refusal-length-requires
put_refusal-length-requires c = zeros_room lines_room _ (omega (arith, length_refusal (said (answer_in c.args.answer))))

pub returns : goal.returns
returns c = puts_printed (omega (arith, length_refusal (said (answer_in c.args.answer)))) c.put_refusal-length.ensures
