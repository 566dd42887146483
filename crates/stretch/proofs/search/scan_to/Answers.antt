use Rattle.stretch.proofs.Scans.{scan_stops}
use Rattle.stretch.proofs.search.scan_to.Goals as goal

pub returns-then-b-c : goal.returns-then-b-c
returns-then-b-c c = scan_stops _ _ _ _ _ c.loop-k.invariant c.if-b-c.true
