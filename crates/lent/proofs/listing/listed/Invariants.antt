use Rattle.std.proofs.Common.{◌≡◌, drop}
use Rattle.lent.specs.inner.Listing.{no_nodes, with_pairs}
use Rattle.lent.proofs.listing.listed.Given as goal

-- What is left of the pairs, listed behind the nodes at hand, gives what the whole slice gives.
abbrev pub invariant-loop-pair : goal.invariant-loop-pair
invariant-loop-pair l = with_pairs (drop l.pair-index l.pairs) l.nodes ≡ with_pairs l.pairs no_nodes
