-- What is asked of a list of pairs, computed: each test is true exactly if what its name says holds.
use Rattle.std.specs.Prelude.{Bool, true, false, not, ◌&&◌, ◌||◌, List, [], ◌∷◌, ℕ, zero, suc, ◌-◌, length, get_or, eqb, ltb, leb}
use Rattle.std.specs.Bool.{beq}
use Rattle.tree.specs.Nested.{leaf}
use Rattle.seed.specs.Seed.{last_node, last_pair}
use Rattle.seed.specs.declared.Pair.{Pair}

-- f is true of each of the list; of one of the list; of each number below n.
unfoldable pub every : {A : Type 0} → (A → Bool) → List A → Bool
every f [] = true
every f (x ∷ xs) = f x && every f xs

unfoldable pub some : {A : Type 0} → (A → Bool) → List A → Bool
some f [] = false
some f (x ∷ xs) = f x || some f xs

unfoldable pub every_below : (ℕ → Bool) → ℕ → Bool
every_below f zero = true
every_below f (suc n) = f n && every_below f n

-- Node i is a proper ancestor of node j; node j is in the subtree of node i.
unfoldable pub above : List ℕ → ℕ → ℕ → Bool
above l i j = leb (leaf l i) j && ltb j i

unfoldable pub in_subtree : List ℕ → ℕ → ℕ → Bool
in_subtree l i j = leb (leaf l i) j && leb j i

-- Each node number is in its tree.
unfoldable pub node_in : ℕ → ℕ → Pair → Bool
node_in n m p = ltb p.q n && ltb p.t m

unfoldable pub nodes_in : List ℕ → List ℕ → List Pair → Bool
nodes_in Q T s = every (node_in (length Q) (length T)) s

-- The two nodes of a pair are of one kind, in trees whose nodes are of the kinds K and L; those of each pair are.
unfoldable pub same_kind : (K L : List ℕ) → Pair → Bool
same_kind K L p = eqb (get_or K p.q 0) (get_or L p.t 0)

unfoldable pub same_kinds : (K L : List ℕ) → List Pair → Bool
same_kinds K L s = every (same_kind K L) s

-- The list rises strictly.
unfoldable pub rises_from : ℕ → List ℕ → Bool
rises_from x [] = true
rises_from x (y ∷ ys) = ltb x y && rises_from y ys

unfoldable pub rises : List ℕ → Bool
rises [] = true
rises (x ∷ xs) = rises_from x xs

-- Ancestry is the same between two pairs; between a pair and each of the list; between any two pairs.
unfoldable pub alike_at : List ℕ → List ℕ → Pair → Pair → Bool
alike_at Q T a b = beq (above Q a.q b.q) (above T a.t b.t)

unfoldable pub alike_to : List ℕ → List ℕ → List Pair → Pair → Bool
alike_to Q T s a = every (alike_at Q T a) s

unfoldable pub alike : List ℕ → List ℕ → List Pair → Bool
alike Q T s = every (alike_to Q T s) s

-- The pair r is p or an ancestor of it; the last pair is an ancestor of all others.
unfoldable pub root_of : List ℕ → List ℕ → Pair → Pair → Bool
root_of Q T r p = (eqb p.q r.q && eqb p.t r.t) || (above Q r.q p.q && above T r.t p.t)

unfoldable pub rooted : List ℕ → List ℕ → List Pair → Bool
rooted Q T s = every (root_of Q T (last_pair s)) s

-- Node x is in the span of a list of nodes: one of them, or on a path from one of them up to the last.
unfoldable pub spans : List ℕ → List ℕ → ℕ → Bool
spans l xs x = some (eqb x) xs || (in_subtree l (last_node xs) x && some (in_subtree l x) xs)

-- f is true of each child of a node whose subtree starts at lo, the children from e - 1 down; k is at least e.
unfoldable pub children : (ℕ → Bool) → List ℕ → ℕ → ℕ → ℕ → Bool
children f l lo zero e = true
children f l lo (suc k) e = leb e lo || (f (e - 1) && children f l lo k (leaf l (e - 1)))

-- Node x is in the list, or outside the span, or off the border.
unfoldable pub paired : List ℕ → List ℕ → ℕ → Bool
paired l xs x = some (eqb x) xs || not (spans l xs x) || (not (eqb (leaf l x) x) && children (spans l xs) l (leaf l x) x x)

-- Every border node of the span is in the list.
unfoldable pub bordered : List ℕ → List ℕ → Bool
bordered l xs = every_below (paired l xs) (suc (last_node xs))
