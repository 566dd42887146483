-- The nodes of the first 1,025 pairs of a list, in two lists.
use Rattle.std.specs.Prelude.{cond, List, [], ◌∷◌, ℕ, ◌+◌, ◌≤◌, ltb, length, set, replicate, take}
use Rattle.seed.specs.Pairs.{pairs_of}
use Rattle.seed.specs.declared.Pair.{Pair}
use Rattle.lent.specs.declared.listing.NodeLists.{NodeLists}

unfoldable pub no_nodes : NodeLists
no_nodes = record { count = 0; qs = replicate 1025 0; ts = replicate 1025 0 }

-- One pair more, where there is room.
unfoldable pub with_one_more : NodeLists → ℕ → ℕ → NodeLists
with_one_more n q t = cond (ltb n.count 1025) (record { count = n.count + 1; qs = set n.qs n.count q; ts = set n.ts n.count t }) n

-- Every pair of a list, in order.
unfoldable pub with_pairs : List Pair → NodeLists → NodeLists
with_pairs [] n = n
with_pairs (p ∷ ps) n = with_pairs ps (with_one_more n p.q p.t)

-- The pairs that the two lists hold.
unfoldable pub held_in : NodeLists → List Pair
held_in n = pairs_of (take n.count n.qs) (take n.count n.ts)

-- As many pairs as there are nodes for.
pub record NodesFit (n : NodeLists) : Type 0 where
  pub room_q : n.count ≤ length n.qs
  pub room_t : n.count ≤ length n.ts
