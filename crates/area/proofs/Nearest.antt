-- The nearest seed pair above a node and above an area: there is one and only one, it is the first of the seed above the node, and it is the same for
-- every node of the area in both trees.
use mathlib.Core.Path.{◌≡◌, refl, sym, subst}
use mathlib.Core.Logic.{inl, inr, ◌↔◌}
use mathlib.Core.List.Memᴰ
use mathlib.Core.List.{List, [], ◌∷◌}
use Prim.Native.Nat.{ℕ, ◌≤◌}
use native.Mathlib.Omega.{arith}
use Rattle.tree.specs.Nested.{Above, Nested}
use Rattle.tree.proofs.Leaves.{lt_or_le}
use Rattle.answer.proofs.Tells.{decided, tells_not_false}
use Rattle.seed.specs.Seed.{◌∈◌, Rising, Pattern, qs, q_of, last_pair}
use Rattle.seed.specs.Area.{Box, InBox, Area}
use Rattle.seed.specs.AreaList.{side}
use Rattle.seed.specs.Tests.{above}
use Rattle.seed.specs.Pairs.{pair_of}
use Rattle.seed.specs.declared.Pair.{Pair}
use Rattle.seed.proofs.Lists.{last_in}
use Rattle.seed.proofs.Sides.{tells_above, side_top, top_side}
use Rattle.seed.proofs.Areas.{fits_level}
use Rattle.area.specs.PaperOrder.{AboveBox, NearestAbove, nearest}

-- Two pairs of the same nodes are equal.
pub pair_eq : (p r : Pair) → p.q ≡ r.q → p.t ≡ r.t → p ≡ r
pair_eq p r e f = λ i. record { q = e i; t = f i }

-- Pair p is the lowest of a list above node i of Q.
pub record Lowest (l : List ℕ) (s : List Pair) (i : ℕ) (p : Pair) : Type 0 where
  pub one : p ∈ s
  pub above : Above l p.q i
  pub lowest : (r : Pair) → r ∈ s → Above l r.q i → p.q ≤ r.q

module _ (l : List ℕ) (i : ℕ) (p : Pair) (s : List Pair) where
  -- The nearest of a list is its first pair, if that is above i, and else the nearest of the others.
  nearest_first : Above l p.q i → nearest l (p ∷ s) i ≡ p
  unfolding nearest
  nearest_first h = rw ((tells_above l p.q i).1 h)

  nearest_later : ¬ Above l p.q i → nearest l (p ∷ s) i ≡ nearest l s i
  unfolding nearest
  nearest_later h = rw (tells_not_false (above l p.q i) (tells_above l p.q i) h)

  -- The first pair of a rising list, above i, is the lowest above it.
  lowest_first : Rising (qs (p ∷ s)) → Above l p.q i → Lowest l (p ∷ s) i p
  lowest_first rise h =
      record {
        one = Memᴰ.head refl;
        above = h;
        lowest = λ r m g. elim (Memᴰ.cases_cons m) [ inl e ↦ rw e (omega arith) | inr n ↦ omega (arith, rise.0 r.q (Memᴰ.map q_of n)) ];
      }

  -- The lowest of the others is the lowest, if the first is not above i.
  lowest_later : ¬ Above l p.q i → (b : Pair) → Lowest l s i b → Lowest l (p ∷ s) i b
  lowest_later out b w =
      record {
        one = Memᴰ.tail w.one;
        above = w.above;
        lowest = λ r m g. elim (Memᴰ.cases_cons m) [ inl e ↦ absurd (out (rw e at g)) | inr n ↦ w.lowest r n g ];
      }

-- Of a rising list with a pair above i, the nearest is the lowest above it.
nearest_found : (l : List ℕ) (s : List Pair) (i : ℕ) → Rising (qs s) → (r : Pair) → r ∈ s → Above l r.q i → Lowest l s i (nearest l s i)
nearest_found l [] i rise r m h = elim m [ ]
nearest_found l (p ∷ s) i rise r m h =
    elim (decided _ _ (tells_above l p.q i)) [
      | inl u ↦ subst (Lowest l (p ∷ s) i) (sym (nearest_first l i p s u)) (lowest_first l i p s rise u)
      | inr u ↦
          subst (Lowest l (p ∷ s) i) (sym (nearest_later l i p s u))
          (lowest_later l i p s u _
          (elim (Memᴰ.cases_cons m) [ inl e ↦ absurd (u (rw e at h)) | inr n ↦ nearest_found l s i rise.1 r n h ]))
    ]

module _ {Q T : List ℕ} (tree_q : Nested Q) (tree_t : Nested T) (s : List Pair) (seed : Pattern Q T s) where
  -- The nearest pair above a node below the last pair is the lowest above it.
  nearest_is : (i : ℕ) → Above Q (last_pair s).q i → Lowest Q s i (nearest Q s i)
  nearest_is i h = nearest_found Q s i seed.rising (last_pair s) (last_in (pair_of 0 0) s seed.some) h

  -- It is one of the seed.
  pub nearest_in : (i : ℕ) → Above Q (last_pair s).q i → nearest Q s i ∈ s
  nearest_in i h = (nearest_is i h).one

  -- It is above the node.
  pub nearest_over : (i : ℕ) → Above Q (last_pair s).q i → Above Q (nearest Q s i).q i
  nearest_over i h = (nearest_is i h).above

  -- None of the seed above the node is lower.
  pub nearest_lowest : (i : ℕ) (r : Pair) → r ∈ s → Above Q r.q i → (nearest Q s i).q ≤ r.q
  nearest_lowest i r m h = (nearest_found Q s i seed.rising r m h).lowest r m h

  -- Of two pairs of the seed that with no greater q has no greater t.
  pub le_t : (p r : Pair) → p ∈ s → r ∈ s → p.q ≤ r.q → p.t ≤ r.t
  le_t p r m n h =
      elim (lt_or_le r.t p.t) [ inl u ↦ absurd (omega (arith, (seed.mapping r p n m).before.1 u)) | inr u ↦ u ]

  -- Pairs of the seed with equal q are equal.
  pub one_pair : (p r : Pair) → p ∈ s → r ∈ s → p.q ≡ r.q → p ≡ r
  one_pair p r m n e = pair_eq p r e ((seed.mapping p r m n).same.0 e)

  -- There is only one nearest pair above a box.
  pub nearest_one : (x : Box) (p r : Pair) → NearestAbove Q T s x p → NearestAbove Q T s x r → p ≡ r
  nearest_one x p r h g =
      one_pair p r h.one g.one (omega (arith, h.lowest r g.one g.above, g.lowest p h.one h.above))

  module _ (x : Box) (area : Area Q T s x) (r : Pair) (m : r ∈ s) where
    -- The nodes of an area see a pair of the seed on one side, in both trees.
    one_side : (i j k n : ℕ) → InBox x i j → InBox x k n → (side Q r.q i ≡ side Q r.q k) × (side T r.t j ≡ side Q r.q i)
    one_side i j k n b c =
        omega (
          arith,
          fits_level tree_q tree_t s seed i j (area.filled.all i j b) r m,
          fits_level tree_q tree_t s seed k j (area.filled.all k j (omega arith)) r m,
        )

    -- A pair of the seed above one node of an area in Q, or in T, is above the area.
    above_q : (i j : ℕ) → InBox x i j → Above Q r.q i → AboveBox Q T r x
    above_q i j b h k n c =
        let e = one_side k n i j c b in
        let f = top_side tree_q r.q i h in
        (side_top Q r.q k (omega arith), side_top T r.t n (omega arith))

    above_t : (i j : ℕ) → InBox x i j → Above T r.t j → AboveBox Q T r x
    above_t i j b h =
        above_q i j b (side_top Q r.q i (omega (arith, top_side tree_t r.t j h, one_side i j i j b b)))

  -- There is a nearest pair above every area: that above its first node.
  pub area_nearest : (x : Box) → Area Q T s x → NearestAbove Q T s x (nearest Q s x.a)
  area_nearest x area = record { one = in_seed; above = above_q x area _ in_seed x.a x.c corner (nearest_over x.a low); lowest = lower }
    where
      corner : InBox x x.a x.c
      corner = omega (arith, area.filled.wide, area.filled.high)

      low : Above Q (last_pair s).q x.a
      low = (area.filled.all x.a x.c corner).below_q

      in_seed : nearest Q s x.a ∈ s
      in_seed = nearest_in x.a low

      lower : (r : Pair) → r ∈ s → AboveBox Q T r x → ((nearest Q s x.a).q ≤ r.q) × ((nearest Q s x.a).t ≤ r.t)
      lower r m h =
          let u = nearest_lowest x.a r m (h x.a x.c corner).0 in
          (u, le_t (nearest Q s x.a) r in_seed m u)

  module _ (x : Box) (p : Pair) (area : Area Q T s x) (near : NearestAbove Q T s x p) (i j : ℕ) (b : InBox x i j) where
    -- The pairs of the seed above a node of an area, in Q and in T, are those above the area: so every node of it has the same nearest pair.
    pub same_everywhere : (r : Pair) → r ∈ s → (Above Q r.q i ↔ AboveBox Q T r x) × (Above T r.t j ↔ AboveBox Q T r x)
    same_everywhere r m = ((above_q x area r m i j b, λ h. (h i j b).0), (above_t x area r m i j b, λ h. (h i j b).1))

    -- The nearest pair above an area is the lowest of the seed above each of its nodes in Q, and in T.
    pub nearest_in_q : (p ∈ s) × Above Q p.q i × ((r : Pair) → r ∈ s → Above Q r.q i → p.q ≤ r.q)
    nearest_in_q = (near.one, (near.above i j b).0, λ r m h. (near.lowest r m ((same_everywhere r m).0.0 h)).0)

    pub nearest_in_t : (p ∈ s) × Above T p.t j × ((r : Pair) → r ∈ s → Above T r.t j → p.t ≤ r.t)
    nearest_in_t = (near.one, (near.above i j b).1, λ r m h. (near.lowest r m ((same_everywhere r m).1.0 h)).1)
