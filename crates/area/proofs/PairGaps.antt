-- The gaps of a pair: the computed pairs directly under it are those, every area under it lies in one gap and alone there, and of two areas under it
-- the one that begins first lies in the gap further left.
use mathlib.Core.Path.{◌≡◌, sym, ap, subst, ◌∙◌}
use mathlib.Core.Bool.{Bool, not, ◌&&◌}
use mathlib.Core.Logic.{inl, inr, ◌↔◌, ◌≢◌}
use mathlib.Core.List.Memᴰ
use mathlib.Core.List.{List}
use Prim.Native.Nat.{ℕ, ◌≤◌, ◌<◌, ◌-◌}
use native.Mathlib.Omega.{arith}
use lib.ListN.{take, drop}
use Rattle.tree.specs.Nested.{leaf, Above, In, Nested}
use Rattle.tree.proofs.Leaves.{lt_or_le}
use Rattle.answer.specs.Tells.{Tells}
use Rattle.answer.proofs.Tells.{decided, tells_and, tells_not}
use Rattle.seed.specs.Seed.{◌∈◌, Rising, Pattern, qs, q_of, last_node}
use Rattle.seed.specs.Area.{Box, InBox, FitsAt, Area}
use Rattle.seed.specs.AreaList.{side, on_left, on_right, on_top, on_subtree, areas}
use Rattle.seed.specs.Tests.{every, above}
use Rattle.seed.specs.Pairs.{pair_of}
use Rattle.seed.specs.declared.Pair.{Pair}
use Rattle.seed.proofs.Trees.{own, nest, self, within}
use Rattle.seed.proofs.Tells.{tells_every, tells_in}
use Rattle.seed.proofs.Search.{Greatest, greatest}
use Rattle.seed.proofs.Places.{Place, left, right, over}
use Rattle.seed.proofs.Fit.{fits_clear}
use Rattle.seed.proofs.Boxes.{Edges}
use Rattle.seed.proofs.Sides.{tells_above, tells_inside, side_of, left_side, right_side, top_side}
use Rattle.seed.proofs.Convex.{Same, mid}
use Rattle.seed.proofs.Areas.{fits_level, fits_q, low_q, area_edges, areas_are}
use Rattle.area.specs.PaperOrder.{NearestAbove, ComesBefore, DirectlyUnder, InGap, ComesByGaps, directly_under}
use Rattle.area.proofs.Nearest.{nearest_in_q}
use Rattle.area.proofs.RisingLists.{those_each, those_rising, take_or_drop, take_in, drop_in, between, rising_one, SplitAt, rising_split}

-- The test of the pairs directly under p, and what it tells.
module _ (Q : List ℕ) (s : List Pair) (p d : Pair) where
  abbrev directly : Bool
  directly = above Q p.q d.q && every (λ (r : Pair). not (above Q p.q r.q && above Q r.q d.q)) s

  abbrev Directly : Type 0
  Directly = Above Q p.q d.q × ((r : Pair) → r ∈ s → ¬ (Above Q p.q r.q × Above Q r.q d.q))

  tells_directly : Tells directly Directly
  tells_directly =
      tells_and _ _ (tells_above Q p.q d.q)
      (tells_every _ _ (λ r. tells_not _ (tells_and _ _ (tells_above Q p.q r.q) (tells_above Q r.q d.q))) s)

module _ {Q T : List ℕ} (tree_q : Nested Q) (tree_t : Nested T) (s : List Pair) (seed : Pattern Q T s) where
  -- The pairs directly under p, by Q alone.
  directly_in : (p d : Pair) → (d ∈ directly_under Q s p) ↔ ((d ∈ s) × Directly Q s p d)
  unfolding directly_under
  directly_in p d = those_each (directly Q s p) (Directly Q s p) (tells_directly Q s p) s d

  -- They rise by q.
  pub directly_rising : (p : Pair) → Rising (qs (directly_under Q s p))
  unfolding directly_under
  directly_rising p = those_rising (directly Q s p) (Directly Q s p) (tells_directly Q s p) q_of s seed.rising

  -- The computed list is exactly the pairs directly under p: ancestry is alike in both trees.
  pub directly_each : (p : Pair) → p ∈ s → (d : Pair) → (d ∈ directly_under Q s p) ↔ DirectlyUnder Q T s p d
  directly_each p m d = (to, λ h. (directly_in p d).1 (h.one, (h.below_q, λ r n g. h.none_q r n g.0 g.1)))
    where
      to : d ∈ directly_under Q s p → DirectlyUnder Q T s p d
      to h =
          let w = (directly_in p d).0 h in
          record {
            one = w.0;
            below_q = w.1.0;
            below_t = (seed.mapping p d m w.0).above.0 w.1.0;
            none_q = λ r n u v. w.1.1 r n (u, v);
            none_t = λ r n u v. w.1.1 r n ((seed.mapping p r m n).above.1 u, (seed.mapping r d n w.0).above.1 v);
          }

  -- A pair of the seed below p is in the subtree of one directly under p: the greatest below p that has it in its subtree.
  directly_over : (p b : Pair) → b ∈ s → Above Q p.q b.q → (d : Pair) × (d ∈ directly_under Q s p) × In Q d.q b.q
  directly_over p b m h = (d, (directly_in p d).1 (c.1, (omega (arith, top.holds, top.below), none)), top.holds.1)
    where
      P : ℕ → Type 0
      P y = (y ∈ qs s) × In Q y b.q

      w : (y : ℕ) × (b.q ≤ y) × Greatest P p.q y
      w = greatest P (λ y. decided _ _ (tells_and _ _ (tells_in y (qs s)) (tells_inside Q y b.q))) p.q b.q h.1 (Memᴰ.map q_of m, self tree_q b.q)

      c : (d : Pair) × (d ∈ s) × (d.q ≡ w.0)
      c = Memᴰ.of_map q_of s w.2.holds.0

      d : Pair
      d = c.0

      top : Greatest P p.q d.q
      top = subst (Greatest P p.q) (sym c.2) w.2

      none : (r : Pair) → r ∈ s → ¬ (Above Q p.q r.q × Above Q r.q d.q)
      none r n g = top.last r.q g.1.1 g.0.1 (Memᴰ.map q_of n, within tree_q r.q d.q b.q (omega arith) top.holds.1)

  module _ (x : Box) (area : Area Q T s x) where
    -- The first corner of an area.
    corner : InBox x x.a x.c
    corner = omega (arith, area.filled.wide, area.filled.high)

    -- Where the nodes of an area see a pair of the seed.
    place_at : (d : Pair) → d ∈ s → (i j : ℕ) → InBox x i j → Place Q T d (pair_of i j)
    place_at d m i j b = fits_clear tree_q tree_t (pair_of i j) s (area.filled.all i j b) d m

    -- A pair of the seed before the first node of an area lies left of it.
    left_of : (d : Pair) → d ∈ s → d.q < x.a → (i j : ℕ) → InBox x i j → (d.q < leaf Q i) × (d.t < leaf T j)
    left_of d m h i j b =
        elim (place_at d m i j b) [
          | left u v ↦ (u, v)
          | right u v ↦ absurd (omega (arith, own tree_q d.q))
          | over u v ↦ absurd (omega arith)
        ]

    -- One behind that node and not above it lies right of the area.
    right_of : (d : Pair) → d ∈ s → x.a ≤ d.q → ¬ Above Q d.q x.a → (i j : ℕ) → InBox x i j → (i < leaf Q d.q) × (j < leaf T d.t)
    right_of d m h out i j b =
        elim (place_at d m i j b) [
          | left u v ↦ absurd (omega (arith, first, own tree_t d.t, own tree_t j))
          | right u v ↦ (u, v)
          | over u v ↦ absurd (omega (arith, first))
        ]
      where
        first : j < leaf T d.t
        first =
            elim (place_at d m x.a j (omega arith)) [
              | left u v ↦ absurd (omega (arith, own tree_q x.a))
              | right u v ↦ v
              | over u v ↦ absurd (out u)
            ]

  -- Every area under p lies in a gap of p.
  pub gap_there : (x : Box) → Area Q T s x → (p : Pair) → NearestAbove Q T s x p → (k : ℕ) × InGap Q T s p k x
  gap_there x area p near = (w.0, record { nearest = near; few = w.1.few; behind = behind; before = before })
    where
      under : List Pair
      under = directly_under Q s p

      w : (k : ℕ) × SplitAt q_of x.a under k
      w = rising_split q_of x.a under (directly_rising p)

      behind : (d : Pair) → d ∈ take w.0 under → (i j : ℕ) → InBox x i j → (d.q < leaf Q i) × (d.t < leaf T j)
      behind d m = left_of x area d ((directly_in p d).0 (take_in w.0 under d m)).0 (w.1.low d m)

      before : (d : Pair) → d ∈ drop w.0 under → (i j : ℕ) → InBox x i j → (i < leaf Q d.q) × (j < leaf T d.t)
      before d m =
          let e = (directly_in p d).0 (drop_in w.0 under d m) in
          right_of x area d e.0 (w.1.high d m)
          (λ u. omega (arith, e.1.0, (nearest_in_q tree_q tree_t s seed x p area near x.a x.c (corner x area)).2 d e.0 u))

  -- On which side an area in gap k of p sees a pair of the seed is told by p and k alone.
  gap_side : (p : Pair) (k : ℕ) (b : Pair) → b ∈ s → (n : ℕ) × ((x : Box) → Area Q T s x → InGap Q T s p k x → side Q b.q x.a ≡ n)
  gap_side p k b m =
      elim (side_of Q b.q p.q) [
        | on_left e u ↦ (0, λ x h g. let z = up x h g in left_side tree_q b.q x.a (omega (arith, nest tree_q x.a p.q (omega arith))))
        | on_right e u ↦ (1, λ x h g. right_side tree_q b.q x.a (omega (arith, up x h g)))
        | on_top e u ↦ (2, λ x h g. top_side tree_q b.q x.a (omega (arith, up x h g, nest tree_q p.q b.q (omega arith))))
        | on_subtree e u ↦
            elim (lt_or_le b.q p.q) [
              | inl lt ↦ below (directly_over p b m (u.0, lt))
              | inr le ↦
                  let z : p.q ≡ b.q = omega arith in
                  (2, λ x h g. top_side tree_q b.q x.a (subst (λ (y : ℕ). Above Q y x.a) z (up x h g)))
            ]
      ]
    where
      up : (x : Box) → Area Q T s x → InGap Q T s p k x → Above Q p.q x.a
      up x h g = (g.nearest.above x.a x.c (corner x h)).0

      below :
          (d : Pair) × (d ∈ directly_under Q s p) × In Q d.q b.q
          → (n : ℕ) × ((x : Box) → Area Q T s x → InGap Q T s p k x → side Q b.q x.a ≡ n)
      below w =
          elim (take_or_drop k (directly_under Q s p) w.0 w.1) [
            | inl m ↦ (0, λ x h g. left_side tree_q b.q x.a (omega (arith, w.2, g.behind w.0 m x.a x.c (corner x h))))
            | inr m ↦ (
              1,
              λ x h g.
                  right_side tree_q b.q x.a
                  (omega (arith, nest tree_q b.q w.0.q w.2, g.before w.0 m x.a x.c (corner x h))),
            )
          ]

  -- So areas in one gap see the seed's nodes in Q alike.
  same_gap : (x y : Box) → Area Q T s x → Area Q T s y → (p : Pair) (k : ℕ) → InGap Q T s p k x → InGap Q T s p k y → Same Q (qs s) x.a y.a
  same_gap x y h g p k u v a m =
      let c = Memᴰ.of_map q_of s m in
      let w = gap_side p k c.0 c.1 in
      subst (λ (z : ℕ). (side Q z x.a ≡ side Q z y.a) × (side Q z x.a ≢ 3)) c.2
      (w.1 x h u ∙ sym (w.1 y g v), (fits_level tree_q tree_t s seed x.a x.c (h.filled.all x.a x.c (corner x h)) c.0 c.1).1)

  -- Of two areas whose first nodes see the seed's pairs alike neither begins before the other.
  not_before : (x y : Box) → Area Q T s x → Area Q T s y → Same Q (qs s) x.a y.a → ¬ (x.a < y.a)
  not_before x y h g same lt = f.no_a (y.a - 1) (omega arith) (fits_q tree_q tree_t s seed y.a (y.a - 1) y.c f.at_ac (omega (arith, low_x, low_y)) back)
    where
      f : Edges (FitsAt Q T s) y
      f = area_edges tree_q tree_t s seed y g

      low_x : Above Q (last_node (qs s)) x.a
      low_x = low_q tree_q tree_t s seed x.a x.c (area_edges tree_q tree_t s seed x h).at_ac

      low_y : Above Q (last_node (qs s)) y.a
      low_y = low_q tree_q tree_t s seed y.a y.c f.at_ac

      back : Same Q (qs s) y.a (y.a - 1)
      back a m =
          let u = same a m in
          let v = mid tree_q (qs s) seed.border_q x.a y.a low_x low_y same (y.a - 1) (omega arith) (omega arith) a m in
          (sym u.0 ∙ v.0, λ e. u.1 (u.0 ∙ e))

  -- Two areas in the same gap of the same pair are equal.
  pub one_in_gap : (x y : Box) → Area Q T s x → Area Q T s y → (p : Pair) (k : ℕ) → InGap Q T s p k x → InGap Q T s p k y → x ≡ y
  one_in_gap x y h g p k u v =
      rising_one (λ (z : Box). z.a) (areas Q T s) (areas_are tree_q tree_t s seed).rising x y
      (((areas_are tree_q tree_t s seed).each x).1 h)
      (((areas_are tree_q tree_t s seed).each y).1 g)
      (omega (arith, not_before x y h g (same_gap x y h g p k u v), not_before y x g h (same_gap y x g h p k v u)))

  -- The area in the gap further right begins later.
  gap_later : (x y : Box) → Area Q T s x → Area Q T s y → (p : Pair) (j k : ℕ) → InGap Q T s p j x → InGap Q T s p k y → k < j → y.a < x.a
  gap_later x y h g p j k u v lt =
      let w = between (directly_under Q s p) k j lt u.few in
      omega (arith, u.behind w.0 w.1 x.a x.c (corner x h), v.before w.0 w.2 y.a y.c (corner y g), own tree_q w.0.q, own tree_q x.a)

  -- Falling a under one pair is the right gap first, then the middle ones from right to left, then the left one.
  pub gaps_order : (x y : Box) → Area Q T s x → Area Q T s y → (p : Pair) (j k : ℕ) → InGap Q T s p j x → InGap Q T s p k y → (y.a < x.a) ↔ (k < j)
  gaps_order x y h g p j k u v = (to, gap_later x y h g p j k u v)
    where
      to : y.a < x.a → k < j
      to lt =
          elim (lt_or_le k j) [
            | inl w ↦ w
            | inr w ↦
                elim (lt_or_le j k) [
                  | inl z ↦ absurd (omega (arith, gap_later y x g h p k j v u z))
                  | inr z ↦
                      let e : k ≡ j = omega arith in
                      absurd (omega (arith, ap (λ (b : Box). b.a) (one_in_gap x y h g p j u (subst (λ (n : ℕ). InGap Q T s p n y) e v))))
                ]
          ]

  -- An area lies in one gap of a pair only.
  pub one_gap : (x : Box) → Area Q T s x → (p : Pair) (j k : ℕ) → InGap Q T s p j x → InGap Q T s p k x → j ≡ k
  one_gap x h p j k u v =
      let few : ¬ (k < j) = λ l. omega (arith, gap_later x x h h p j k u v l) in
      let many : ¬ (j < k) = λ l. omega (arith, gap_later x x h h p k j v u l) in
      omega arith

  -- The paper's order by falling a is the order by gaps.
  pub order_by_gaps : (x y : Box) → Area Q T s x → Area Q T s y → ComesBefore Q T s x y ↔ ComesByGaps Q T s x y
  order_by_gaps x y h g = (to, from)
    where
      -- Under one pair the two orders are the same.
      under : (p r : Pair) (j k : ℕ) → InGap Q T s p j x → InGap Q T s r k y → p ≡ r → (y.a < x.a) ↔ (k < j)
      under p r j k u v e = gaps_order x y h g p j k u (subst (λ (z : Pair). InGap Q T s z k y) (sym e) v)

      to : ComesBefore Q T s x y → ComesByGaps Q T s x y
      to c =
          let u = gap_there x h c.over_x c.nearest_x in
          let v = gap_there y g c.over_y c.nearest_y in
          record {
            over_x = c.over_x;
            over_y = c.over_y;
            gap_x = u.0;
            gap_y = v.0;
            in_x = u.1;
            in_y = v.1;
            order = elim c.order [ inl w ↦ inl w | inr w ↦ inr (w.0, (under _ _ _ _ u.1 v.1 w.0).0 w.1) ];
          }

      from : ComesByGaps Q T s x y → ComesBefore Q T s x y
      from c =
          record {
            over_x = c.over_x;
            over_y = c.over_y;
            nearest_x = c.in_x.nearest;
            nearest_y = c.in_y.nearest;
            order = elim c.order [ inl w ↦ inl w | inr w ↦ inr (w.0, (under _ _ _ _ c.in_x c.in_y w.0).1 w.1) ];
          }
