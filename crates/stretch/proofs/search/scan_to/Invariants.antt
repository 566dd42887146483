-- What is passed and what is left make up the whole scan.
use Rattle.std.proofs.Common.{length, ◌-◌}
use Rattle.stretch.proofs.Scans.{Scanning}
use Rattle.stretch.proofs.search.scan_to.Given as goal

abbrev pub invariant-loop-k : goal.invariant-loop-k
invariant-loop-k l = Scanning l.text l.a l.b l.c l.k

abbrev pub decreases-loop-k : goal.decreases-loop-k
decreases-loop-k l = length l.text - l.k
