-- The gaps of a seed in one tree and in two, by which its open areas are found.
use Rattle.std.specs.Prelude.{cond, List, [], ◌∷◌, ◌++◌, ℕ, ◌+◌, ◌-◌, length, replicate, eqb}
use Rattle.tree.specs.Reading.{leaves_of}
use Rattle.tree.specs.declared.Tree.{Tree}
use Rattle.seed.specs.Tab.{tab}
use Rattle.seed.specs.Seed.{qs, ts}
use Rattle.seed.specs.AreaList.{side}
use Rattle.seed.specs.declared.Pair.{Pair}
use Rattle.gap.specs.declared.Gaps.{Gaps}

-- What a node left of another counts, and what one right of it.
unfoldable pub weight : ℕ → ℕ
weight side = cond (eqb side 0) 256 1

-- The gap of node i as seen from the nodes of a list, with k counted before them: what those up to the first one above i count. It is 0 if
-- one of these lies in the subtree of i, or none lies above i.
unfoldable pub gap_from : List ℕ → ℕ → List ℕ → ℕ → ℕ
gap_from l i [] k = 0
gap_from l i (x ∷ xs) k = cond (eqb (side l x i) 3) 0 (cond (eqb (side l x i) 2) k (gap_from l i xs (k + weight (side l x i))))

unfoldable pub gap : List ℕ → List ℕ → ℕ → ℕ
gap l xs i = gap_from l i xs 1

-- An array of 256 numbers: those of f below n, and zeros.
abbrev pub filled : (ℕ → ℕ) → ℕ → List ℕ
filled f n = tab n f ++ replicate (256 - n) 0

-- The gaps of all nodes of two trees.
abbrev pub gaps_in : Tree → Tree → List Pair → Gaps
gaps_in q t s = record { q = filled (gap (leaves_of q) (qs s)) (length (leaves_of q)); t = filled (gap (leaves_of t) (ts s)) (length (leaves_of t)) }
