-- `lines::result`: the array has room for every line.
use Rattle.std.proofs.Common.{arith, rules}
use Rattle.write.proofs.Zeros.{zeros_room}
use Rattle.lines.specs.Lines.{lines_room}
use Rattle.lines.proofs.Lengths.{length_result}
use Rattle.lines.proofs.Printed.{puts_printed}
use Rattle.lines.proofs.result.Goals as goal

pub put_result-length-requires : goal.put_result-length-requires
put_result-length-requires c = zeros_room lines_room _ (omega (arith, length_result c.args.total c.args.chain (search rules)))

pub returns : goal.returns
returns c = puts_printed (omega (arith, length_result c.args.total c.args.chain (search rules))) c.put_result-length.ensures
