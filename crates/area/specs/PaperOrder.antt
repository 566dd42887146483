-- Open areas in the paper's order of work (document 02, e): that of document 004's Algorithm 3, with the last push read as the pair just treated.
use Rattle.std.specs.Prelude.{◌≡◌, Bool, cond, not, ◌&&◌, ◌⊎◌, ◌↔◌, ℕ, ◌≤◌, ◌<◌, length, take, drop, eqb}
use mathlib.Core.List.{List, [], ◌∷◌, reverse, flat_map}
use Rattle.tree.specs.Nested.{leaf, Above}
use Rattle.seed.specs.Seed.{◌∈◌}
use Rattle.seed.specs.Area.{Box, InBox, Area, Areas}
use Rattle.seed.specs.Pairs.{pair_of}
use Rattle.seed.specs.Tests.{every, above}
use Rattle.seed.specs.AreaList.{areas}
use Rattle.seed.specs.declared.Pair.{Pair}
use Rattle.area.specs.declared.Order.{Order}
use Rattle.area.specs.declared.Order.TheVariants.{RisingA, Paper}

-- The nodes of pair p are above those of box x.
abbrev pub AboveBox : List ℕ → List ℕ → Pair → Box → Type 0
AboveBox Q T p x = (i j : ℕ) → InBox x i j → Above Q p.q i × Above T p.t j

-- The nearest seed pair above the box: of the seed's pairs whose nodes are above the box's, the lowest.
pub record NearestAbove (Q T : List ℕ) (s : List Pair) (x : Box) (p : Pair) : Type 0 where
  pub one : p ∈ s
  pub above : AboveBox Q T p x
  pub lowest : (r : Pair) → r ∈ s → AboveBox Q T r x → (p.q ≤ r.q) × (p.t ≤ r.t)

-- Box x comes before box y: by rising q of the nearest seed pair above, and under one pair by falling a.
pub record ComesBefore (Q T : List ℕ) (s : List Pair) (x y : Box) : Type 0 where
  pub over_x : Pair
  pub over_y : Pair
  pub nearest_x : NearestAbove Q T s x over_x
  pub nearest_y : NearestAbove Q T s y over_y
  pub order : (over_x.q < over_y.q) ⊎ ((over_x ≡ over_y) × (y.a < x.a))

-- Each of a list comes before all behind it.
abbrev pub InOrder : (Box → Box → Type 0) → List Box → Type 0
InOrder R [] = Unit {0}
InOrder R (x ∷ xs) = ((y : Box) → y ∈ xs → R x y) × InOrder R xs

-- Those of a list of which f is true.
unfoldable pub those : {A : Type 0} → (A → Bool) → List A → List A
those f [] = []
those f (x ∷ xs) = cond (f x) (x ∷ those f xs) (those f xs)

-- Pair d is directly under pair p: below it, with no pair of the seed between (document 004, "direct descendants").
pub record DirectlyUnder (Q T : List ℕ) (s : List Pair) (p d : Pair) : Type 0 where
  pub one : d ∈ s
  pub below_q : Above Q p.q d.q
  pub below_t : Above T p.t d.t
  pub none_q : (r : Pair) → r ∈ s → Above Q p.q r.q → ¬ Above Q r.q d.q
  pub none_t : (r : Pair) → r ∈ s → Above T p.t r.t → ¬ Above T r.t d.t

-- The pairs directly under p, by rising q.
unfoldable pub directly_under : List ℕ → List Pair → Pair → List Pair
directly_under Q s p = those (λ (d : Pair). above Q p.q d.q && every (λ (r : Pair). not (above Q p.q r.q && above Q r.q d.q)) s) s

-- Box x lies in gap k of pair p, counted from the left: behind the first k of the pairs directly under p, and before the others. So gap 0 is the left
-- one, the gap behind all of them the right one, and each other lies between two neighbours.
pub record InGap (Q T : List ℕ) (s : List Pair) (p : Pair) (k : ℕ) (x : Box) : Type 0 where
  pub nearest : NearestAbove Q T s x p
  pub few : k ≤ length (directly_under Q s p)
  pub behind : (d : Pair) → d ∈ take k (directly_under Q s p) → (i j : ℕ) → InBox x i j → (d.q < leaf Q i) × (d.t < leaf T j)
  pub before : (d : Pair) → d ∈ drop k (directly_under Q s p) → (i j : ℕ) → InBox x i j → (i < leaf Q d.q) × (j < leaf T d.t)

-- The order in the request's words: by rising q of the nearest seed pair above, and under one pair the right gap first, then the middle ones from
-- right to left, then the left one.
pub record ComesByGaps (Q T : List ℕ) (s : List Pair) (x y : Box) : Type 0 where
  pub over_x : Pair
  pub over_y : Pair
  pub gap_x : ℕ
  pub gap_y : ℕ
  pub in_x : InGap Q T s over_x gap_x x
  pub in_y : InGap Q T s over_y gap_y y
  pub order : (over_x.q < over_y.q) ⊎ ((over_x ≡ over_y) × (gap_y < gap_x))

-- The open areas of a seed, all of them, in the paper's order of work.
pub record AreasInPaperOrder (Q T : List ℕ) (s : List Pair) (xs : List Box) : Type 0 where
  pub ordered : InOrder (ComesBefore Q T s) xs
  pub by_gaps : InOrder (ComesByGaps Q T s) xs
  pub each : (x : Box) → (x ∈ xs) ↔ Area Q T s x

-- The open areas of a seed, all of them, in an order.
abbrev pub AreasInOrder : Order → List ℕ → List ℕ → List Pair → List Box → Type 0
AreasInOrder RisingA Q T s xs = Areas Q T s xs
AreasInOrder Paper Q T s xs = AreasInPaperOrder Q T s xs

-- ---- the same computed

-- The nearest seed pair above node i of Q: the first one above it, since the pairs rise; (0, 0) if none is.
unfoldable pub nearest : List ℕ → List Pair → ℕ → Pair
nearest Q [] i = pair_of 0 0
nearest Q (p ∷ s) i = cond (above Q p.q i) p (nearest Q s i)

-- The areas under the pair whose node in Q is x, by falling a.
unfoldable pub areas_under : List ℕ → List ℕ → List Pair → ℕ → List Box
areas_under Q T s x = reverse (those (λ (y : Box). eqb (nearest Q s y.a).q x) (areas Q T s))

-- The open areas of a seed in the paper's order of work.
unfoldable pub areas_in_paper_order : List ℕ → List ℕ → List Pair → List Box
areas_in_paper_order Q T s = flat_map (λ (p : Pair). areas_under Q T s p.q) s

-- The open areas of a seed in an order.
unfoldable pub areas_by : Order → List ℕ → List ℕ → List Pair → List Box
areas_by RisingA Q T s = areas Q T s
areas_by Paper Q T s = areas_in_paper_order Q T s
