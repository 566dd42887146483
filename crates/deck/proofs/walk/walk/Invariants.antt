use Rattle.std.proofs.Common.{◌-◌}
use Rattle.deck.specs.Deck.{pair_count}
use Rattle.deck.proofs.Walking.{Walking}
use Rattle.deck.proofs.walk.walk.Given as goal

-- The walk has come to index k, and the arrays hold what it reached.
abbrev pub invariant-loop-i : goal.invariant-loop-i
invariant-loop-i l = Walking l.deck l.marks l.filled l.i l.k

abbrev pub decreases-loop-i : goal.decreases-loop-i
decreases-loop-i l = pair_count l.deck - l.filled.pairs
