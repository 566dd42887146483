-- The list in the paper's order of work: exactly the areas, as many as by rising a, in that order.
use mathlib.Core.Path.{◌≡◌, refl, sym, ap, ◌∙◌}
use mathlib.Core.Bool.{Bool}
use mathlib.Core.Logic.{◌⊎◌, inl, inr, ◌↔◌}
use mathlib.Core.List.Memᴰ
use mathlib.Core.List.{List, [], ◌∷◌, ◌++◌, map, reverse, reverse-cons, flat_map}
use Prim.Native.Nat.{ℕ, ◌<◌}
use native.Mathlib.Omega.{arith}
use lib.ListN.{length}
use lib.Dec.{eqb}
use Rattle.answer.proofs.Tells.{tells_eq}
use Rattle.tree.specs.Nested.{Nested}
use Rattle.seed.specs.Seed.{◌∈◌, Rising, Pattern, qs, q_of}
use Rattle.seed.specs.Area.{Box, Area}
use Rattle.seed.specs.AreaList.{areas}
use Rattle.seed.specs.declared.Pair.{Pair}
use Rattle.area.specs.declared.Order.{Order}
use Rattle.area.specs.declared.Order.TheVariants.{RisingA, Paper}
use Rattle.seed.proofs.Areas.{areas_are}
use Rattle.area.specs.PaperOrder.{InOrder, ComesBefore, AreasInPaperOrder, AreasInOrder, those, nearest, areas_under, areas_in_paper_order, areas_by}
use Rattle.area.proofs.RisingLists.{those_each, those_rising}
use Rattle.area.proofs.LaidLists.{turned_in, turned_of, laid_in, laid_of, by_keys}
use Rattle.area.proofs.Nearest.{area_nearest, nearest_one, one_pair}
use Rattle.area.proofs.PairGaps.{order_by_gaps}

-- ---- lists in order

order_append : {R : Box → Box → Type 0} (xs ys : List Box) → InOrder R xs → InOrder R ys → ((x y : Box) → x ∈ xs → y ∈ ys → R x y) → InOrder R (xs ++ ys)
order_append [] ys o q h = q
order_append (x ∷ xs) ys o q h = (
  λ y m. elim (Memᴰ.append_cases xs m) [ inl n ↦ o.0 y n | inr n ↦ h x y (Memᴰ.head refl) n ],
  order_append xs ys o.1 q (λ a b n k. h a b (Memᴰ.tail n) k),
)

order_as : {R S : Box → Box → Type 0} (xs : List Box) → ((x y : Box) → x ∈ xs → y ∈ xs → R x y → S x y) → InOrder R xs → InOrder S xs
order_as [] h o = tt
order_as (x ∷ xs) h o = (λ y m. h x y (Memᴰ.head refl) (Memᴰ.tail m) (o.0 y m), order_as xs (λ a b n k. h a b (Memᴰ.tail n) (Memᴰ.tail k)) o.1)

-- Box x begins behind box y.
abbrev Falls : Box → Box → Type 0
Falls x y = y.a < x.a

abbrev a_of : Box → ℕ
a_of x = x.a

-- Boxes that rise by a fall when they are turned round.
turned_falls : (xs : List Box) → Rising (map a_of xs) → InOrder Falls (reverse xs)
turned_falls [] r = tt
turned_falls (x ∷ xs) r =
    rw (reverse-cons x xs)
    (order_append (reverse xs) (x ∷ []) (turned_falls xs r.1) ((λ y m. elim m [ ]), tt)
    (λ y z m n. let e = Memᴰ.eq_of_singleton n in rw e (r.0 y.a (Memᴰ.map a_of (turned_of xs m)))))

module _ {Q T : List ℕ} (tree_q : Nested Q) (tree_t : Nested T) (s : List Pair) (seed : Pattern Q T s) where
  -- The areas under node x are those whose nearest pair above is at x.
  under_each : (x : ℕ) (y : Box) → (y ∈ areas_under Q T s x) ↔ (Area Q T s y × ((nearest Q s y.a).q ≡ x))
  unfolding areas_under
  under_each x y = (to, from)
    where
      test : Box → Bool
      test z = eqb (nearest Q s z.a).q x

      at_x : Box → Type 0
      at_x z = (nearest Q s z.a).q ≡ x

      parts : (y ∈ those test (areas Q T s)) ↔ ((y ∈ areas Q T s) × at_x y)
      parts = those_each test at_x (λ z. tells_eq (nearest Q s z.a).q x) (areas Q T s) y

      to : y ∈ reverse (those test (areas Q T s)) → Area Q T s y × at_x y
      to m = let w = parts.0 (turned_of (those test (areas Q T s)) m) in (((areas_are tree_q tree_t s seed).each y).0 w.0, w.1)

      from : Area Q T s y × at_x y → y ∈ reverse (those test (areas Q T s))
      from h = turned_in (those test (areas Q T s)) (parts.1 (((areas_are tree_q tree_t s seed).each y).1 h.0, h.1))

  under_falls : (x : ℕ) → InOrder Falls (areas_under Q T s x)
  unfolding areas_under
  under_falls x =
      turned_falls (those (λ (z : Box). eqb (nearest Q s z.a).q x) (areas Q T s))
      (those_rising (λ (z : Box). eqb (nearest Q s z.a).q x) (λ (z : Box). (nearest Q s z.a).q ≡ x) (λ z. tells_eq (nearest Q s z.a).q x) a_of (areas Q T s) (areas_are tree_q tree_t s seed).rising)

  comes : (y z : Box) → Area Q T s y → Area Q T s z → ((nearest Q s y.a).q < (nearest Q s z.a).q) ⊎ ((nearest Q s y.a ≡ nearest Q s z.a) × (z.a < y.a)) → ComesBefore Q T s y z
  comes y z a b o =
      record {
        over_x = nearest Q s y.a;
        over_y = nearest Q s z.a;
        nearest_x = area_nearest tree_q tree_t s seed y a;
        nearest_y = area_nearest tree_q tree_t s seed z b;
        order = o;
      }

  under_ordered : (x : ℕ) → InOrder (ComesBefore Q T s) (areas_under Q T s x)
  under_ordered x = order_as (areas_under Q T s x) before (under_falls x)
    where
      before : (y z : Box) → y ∈ areas_under Q T s x → z ∈ areas_under Q T s x → Falls y z → ComesBefore Q T s y z
      before y z m n f =
          let u = (under_each x y).0 m in
          let v = (under_each x z).0 n in
          let near-y = area_nearest tree_q tree_t s seed y u.0 in
          let near-z = area_nearest tree_q tree_t s seed z v.0 in
          comes y z u.0 v.0 (inr (one_pair tree_q tree_t s seed (nearest Q s y.a) (nearest Q s z.a) near-y.one near-z.one (u.1 ∙ sym v.1), f))

  abbrev under : Pair → List Box
  under p = areas_under Q T s p.q

  pairs_ordered : (r : List Pair) → Rising (qs r) → InOrder (ComesBefore Q T s) (flat_map under r)
  unfolding flat_map
  pairs_ordered [] rise = tt
  pairs_ordered (p ∷ r) rise = order_append (under p) (flat_map under r) (under_ordered p.q) (pairs_ordered r rise.1) across
    where
      across : (y z : Box) → y ∈ under p → z ∈ flat_map under r → ComesBefore Q T s y z
      across y z m n =
          let w = laid_of under r n in
          let u = (under_each p.q y).0 m in
          let v = (under_each w.0.q z).0 w.2 in
          comes y z u.0 v.0 (inl (omega (arith, u.1, v.1, rise.0 w.0.q (Memᴰ.map q_of w.1))))

  -- The list has exactly the areas.
  paper_each : (y : Box) → (y ∈ areas_in_paper_order Q T s) ↔ Area Q T s y
  unfolding areas_in_paper_order
  paper_each y = (to, from)
    where
      to : y ∈ flat_map under s → Area Q T s y
      to m = let w = laid_of under s m in ((under_each w.0.q y).0 w.2).0

      from : Area Q T s y → y ∈ flat_map under s
      from a = laid_in under s (area_nearest tree_q tree_t s seed y a).one ((under_each (nearest Q s y.a).q y).1 (a, refl))

  -- They stand in the order of work, by nearest pairs and falling a, and so by the gaps of each pair.
  pub paper_are : AreasInPaperOrder Q T s (areas_in_paper_order Q T s)
  unfolding areas_in_paper_order
  paper_are =
      let ordered = pairs_ordered s seed.rising in
      record {
        ordered = ordered;
        by_gaps = order_as (areas_in_paper_order Q T s) (λ y z m n. (order_by_gaps tree_q tree_t s seed y z ((paper_each y).0 m) ((paper_each z).0 n)).0) ordered;
        each = paper_each;
      }

  -- No box comes before itself, so that none stands twice in a list in order.
  pub not_itself : (y : Box) → ¬ ComesBefore Q T s y y
  not_itself y b =
      let e = nearest_one tree_q tree_t s seed y b.over_x b.over_y b.nearest_x b.nearest_y in
      elim b.order [ inl u ↦ omega (arith, ap q_of e) | inr u ↦ omega (arith, u.1) ]

  -- There are as many in either order.
  pub paper_count : length (areas_in_paper_order Q T s) ≡ length (areas Q T s)
  unfolding areas_in_paper_order areas_under
  paper_count =
      by_keys (λ (y : Box). (nearest Q s y.a).q) s seed.rising (areas Q T s)
      (λ y m. Memᴰ.map q_of (area_nearest tree_q tree_t s seed y (((areas_are tree_q tree_t s seed).each y).0 m)).one)

  -- The computed list in an order is the list in that order, and has as many.
  pub areas_in_order : (order : Order) → AreasInOrder order Q T s (areas_by order Q T s)
  unfolding areas_by
  areas_in_order RisingA = areas_are tree_q tree_t s seed
  areas_in_order Paper = paper_are

  pub order_count : (order : Order) → length (areas_by order Q T s) ≡ length (areas Q T s)
  unfolding areas_by
  order_count RisingA = refl
  order_count Paper = paper_count
