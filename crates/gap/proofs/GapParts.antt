-- The parts of its memory that finding the gaps hands on: of trees that were read, and of lists that hold a seed.
use mathlib.Core.Path.{◌≡◌}
use mathlib.Core.List.{List}
use Prim.Native.Nat.{ℕ, ◌≤◌}
use native.Mathlib.Omega.{arith}
use lib.ListN.{length, take}
use Rattle.tree.specs.Reading.{IsTree, leaves_of}
use Rattle.tree.specs.declared.Tree.{Tree}
use Rattle.tree.proofs.Trees.{tree_nodes, tree_length, tree_nested}
use Rattle.seed.specs.Pairs.{pairs_of, Held}
use Rattle.seed.proofs.PairLists.{nodes_first, nodes_second, cut_first, cut_second}
use Rattle.gap.specs.GapNumbers.{gap, filled, gaps_in}
use Rattle.gap.specs.declared.Gaps.{Gaps}
use Rattle.gap.proofs.GapFits.{seed_few}

pub leaves_few : (t : Tree) → IsTree t → length (leaves_of t) ≤ 256
leaves_few t h = omega (arith, tree_length t h, tree_nodes t h)

-- A seed has no more pairs than a tree has nodes.
pub pairs_few : (q t : Tree) (a b : List ℕ) → Held q t (pairs_of a b) → (k : ℕ) → k ≡ length (pairs_of a b) → (length (take k a) ≤ 256) × (length (take k b) ≤ 256)
pairs_few q t a b h k e =
    let n = seed_few (tree_nested q h.is_q) (tree_nested t h.is_t) (pairs_of a b) h.seed.pattern in
    omega (arith, leaves_few q h.is_q, cut_first a b e, cut_second a b e)

-- The gaps of both trees are those of the seed.
pub both_gaps :
    (q t : Tree) (a b : List ℕ) (k : ℕ) {g h : List ℕ}
    → k ≡ length (pairs_of a b)
    → g ≡ filled (gap (leaves_of q) (take k a)) (length (leaves_of q))
    → h ≡ filled (gap (leaves_of t) (take k b)) (length (leaves_of t))
    → ◌≡◌ {A = Gaps} (record { q = g; t = h }) (gaps_in q t (pairs_of a b))
both_gaps q t a b k e u v = rw (u, v, e, nodes_first a b, nodes_second a b)
