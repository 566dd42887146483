-- The measure is the bytes left.
use Rattle.std.proofs.Common.{◌-◌, length}
use Rattle.test_cases.proofs.script.lines.Given as goal

abbrev pub decreases-loop-at : goal.decreases-loop-at
decreases-loop-at g l = length l.s - l.at
