-- The gaps of the nodes below i are written.
use Rattle.std.proofs.Common.{length, ◌≡◌, ◌≤◌}
use Rattle.gap.specs.GapNumbers.{gap, filled}
use Rattle.gap.proofs.gaps_in.Given as goal

abbrev pub invariant-loop-i : goal.invariant-loop-i
invariant-loop-i l = (l.i ≤ length l.l) × (l.all ≡ filled (gap l.l l.nodes) l.i)
