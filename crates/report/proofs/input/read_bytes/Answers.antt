use Rattle.report.specs.Input.{read_bytes}
use Rattle.report.proofs.Parts.{take_min}
use Rattle.report.proofs.input.read_bytes.Goals as goal

pub returns : goal.returns
unfolding read_bytes
returns c = rw c.min-end.ensures (take_min 8192 c.args.input.now)
