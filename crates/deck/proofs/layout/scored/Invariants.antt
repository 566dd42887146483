use Rattle.std.proofs.Common.{◌≡◌}
use Rattle.deck.specs.Deck.{seed_count}
use Rattle.deck.specs.inner.Walking.{with_scores}
use Rattle.deck.proofs.Records.{scores_below}
use Rattle.deck.proofs.layout.scored.Given as goal

-- The scores passed stand in the table.
abbrev pub invariant-loop-i : goal.invariant-loop-i
invariant-loop-i l = l.table ≡ with_scores l.fn.table (scores_below l.deck l.i) (seed_count l.deck)
