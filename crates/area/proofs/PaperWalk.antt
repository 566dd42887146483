-- The walk over the children of each pair's node gives the areas in the paper's order of work: the areas under a pair begin where children of its node
-- outside the span do.
use mathlib.Core.Path.{◌≡◌, refl, sym, ap, subst, ◌∙◌}
use mathlib.Core.Bool.{Bool, true, false}
use mathlib.Core.Logic.{◌⊎◌, inl, inr, ◌≢◌}
use mathlib.Core.List.Memᴰ
use mathlib.Core.List.{List, [], ◌∷◌, ◌++◌, append-nil, append_assoc, reverse, reverse-append, flat_map}
use Prim.Native.Nat.{ℕ, zero, suc, ◌+◌, ◌-◌, ◌≤◌, ◌<◌}
use native.Mathlib.Omega.{arith}
use native.Mathlib.Decide.{ℕ_discrete}
use native.Mathlib.Numerals.{add-one}
use lib.ListN.{length, get_or}
use lib.Dec.{eqb}
use borrow.Author.Tests.{eq-eqb, ne_eqb}
use Rattle.tree.specs.Nested.{leaf, Above, In, Nested}
use Rattle.tree.proofs.Leaves.{lt_or_le}
use Rattle.seed.specs.Tab.{tab}
use Rattle.seed.specs.Paths.{Child}
use Rattle.seed.specs.Seed.{◌∈◌, Rising, Span, Pattern, qs, ts, q_of, last_pair}
use Rattle.seed.specs.Area.{Box, FitsAt, Area}
use Rattle.seed.specs.AreaList.{side, on_left, on_right, on_top, on_subtree, first_below, box_at, begins, box_row, boxes}
use Rattle.seed.specs.declared.Pair.{Pair}
use Rattle.seed.proofs.Tabs.{length_tab, get_d_tab}
use Rattle.seed.proofs.Trees.{own, nest}
use Rattle.seed.proofs.Lists.{last_by}
use Rattle.seed.proofs.Sides.{side_of, top_side}
use Rattle.seed.proofs.Children.{Edge, edge_child, edge_next}
use Rattle.seed.proofs.Convex.{Same, in_side, side_in, side_down, crossing}
use Rattle.seed.proofs.Areas.{areas_are, area_edges, fits_q}
use Rattle.area.specs.PaperOrder.{those, nearest, areas_under, areas_in_paper_order}
use Rattle.gap.specs.GapNumbers.{gap_from, gap}
use Rattle.area.specs.inner.Boxes.{meet, box_from, boxes_below}
use Rattle.area.specs.inner.Walk.{child_box, child_boxes, boxes_under, boxes_in_order}
use Rattle.gap.proofs.GapFits.{gap_left, gap_in, above_gap}
use Rattle.area.proofs.GapLists.{areas_meet}
use Rattle.area.proofs.AreaSteps.{below_next}
use Rattle.area.proofs.LaidLists.{those_append}
use Rattle.area.proofs.Walks.{child_in_span, child_outside, child_next, child_end}
use Rattle.area.proofs.Nearest.{nearest_in, nearest_over, nearest_lowest}

-- ---- gaps that are not 0

-- A node with one of a rising list in its subtree has the gap 0.
gap_holds : {l : List ℕ} (tree : Nested l) (xs : List ℕ) (c k z : ℕ) → Rising xs → z ∈ xs → In l c z → gap_from l c xs k ≡ 0
gap_holds tree [] c k z r m h = elim m [ ]
gap_holds {l} tree (x ∷ xs) c k z r m h =
    elim (Memᴰ.cases_cons m) [
      | inl e ↦ gap_in l c x xs k (in_side tree x c (subst (In l c) e h))
      | inr n ↦ elim (side_of l x c) [
        | on_left e u ↦ gap_left l c x xs k e ∙ gap_holds tree xs c (k + 256) z r.1 n h
        | on_right e u ↦ absurd (omega (arith, r.0 z n, own tree x))
        | on_top e u ↦ absurd (omega (arith, r.0 z n))
        | on_subtree e u ↦ gap_in l c x xs k e
      ]
    ]

-- ---- the boxes of a row

-- A row has no box, or one, which begins there.
data RowOf (g h : List ℕ) (a : ℕ) : Type 0 where
  no_box : box_from g h a ≡ [] → RowOf g h a
  one_box : (y : Box) → y.a ≡ a → box_from g h a ≡ y ∷ [] → RowOf g h a

row_of : (g h : List ℕ) (a : ℕ) → RowOf g h a
unfolding box_from box_row box_at
row_of g h a = go (begins (meet g h) (length h) a (first_below (meet g h a) (length h))) refl
  where
    go : (b : Bool) → begins (meet g h) (length h) a (first_below (meet g h a) (length h)) ≡ b → RowOf g h a
    go true e = one_box (box_at (meet g h) (length g) (length h) a (first_below (meet g h a) (length h))) refl (rw e)
    go false e = no_box (rw e)

-- A row's box is one of all.
row_below : (g h : List ℕ) (y : Box) (a n : ℕ) → a < n → y ∈ box_from g h a → y ∈ boxes_below g h n
unfolding boxes_below boxes box_from
row_below g h y a zero u m = absurd (omega arith)
row_below g h y a (suc n) u m =
    elim (lt_or_le a n) [
      | inl v ↦ Memᴰ.append_left (box_from g h n) (row_below g h y a n v m)
      | inr v ↦ let e : a ≡ n = omega arith in Memᴰ.append_right (boxes_below g h n) (subst (λ (k : ℕ). y ∈ box_from g h k) e m)
    ]

module _ {Q T : List ℕ} (tree_q : Nested Q) (tree_t : Nested T) (s : List Pair) (seed : Pattern Q T s) (few : length Q ≤ 256) where
  abbrev G : List ℕ
  G = tab (length Q) (gap Q (qs s))

  abbrev H : List ℕ
  H = tab (length T) (gap T (ts s))

  -- A row's box is an area.
  row_area : (y : Box) (a : ℕ) → a < length Q → box_from G H a ≡ y ∷ [] → Area Q T s y
  row_area y a u e =
      ((areas_are tree_q tree_t s seed).each y).0
      (subst (λ (xs : List Box). y ∈ xs) (sym (areas_meet tree_q tree_t s seed few))
      (row_below G H y a (length G) (omega (arith, length_tab (length Q) (gap Q (qs s)))) (subst (λ (xs : List Box). y ∈ xs) (sym e) (Memᴰ.head refl))))

  -- The first node of an area lies below the last pair, outside the span.
  first_fits : (y : Box) → Area Q T s y → FitsAt Q T s y.a y.c
  first_fits y area = area.filled.all y.a y.c (omega (arith, area.filled.wide, area.filled.high))

  -- ---- the areas under one pair

  module _ (p : Pair) (m : p ∈ s) where
    abbrev x : ℕ
    x = p.q

    abbrev is_under : Box → Bool
    is_under y = eqb (nearest Q s y.a).q x

    -- Those of the rows below k, and those of one row, by falling a.
    abbrev under_below : ℕ → List Box
    under_below k = reverse (those is_under (boxes_below G H k))

    abbrev under_row : ℕ → List Box
    under_row k = reverse (those is_under (box_from G H k))

    under_next : (k : ℕ) → under_below (k + 1) ≡ under_row k ++ under_below k
    under_next k = rw (below_next G H k, those_append is_under (boxes_below G H k) (box_from G H k)) (reverse-append (those is_under (boxes_below G H k)) (those is_under (box_from G H k)))

    under_none : under_below 0 ≡ []
    unfolding boxes_below boxes those
    under_none = refl

    -- An area begins at k, and its nearest pair above is p.
    abbrev Begins : ℕ → Type 0
    Begins k = (y : Box) × Area Q T s y × (y.a ≡ k) × ((nearest Q s k).q ≡ x)

    row_none : (k : ℕ) → k < length Q → ¬ Begins k → under_row k ≡ []
    unfolding those
    row_none k u h =
        elim (row_of G H k) [
          | no_box e ↦ rw e
          | one_box y a e ↦ rw (e, ne_eqb (nearest Q s y.a).q x (λ z. h (y, row_area y k u e, a, subst (λ (i : ℕ). (nearest Q s i).q ≡ x) a z)))
        ]

    row_all : (k : ℕ) → k < length Q → ((y : Box) → Area Q T s y → y.a ≡ k → (nearest Q s k).q ≡ x) → under_row k ≡ box_from G H k
    unfolding those
    row_all k u h =
        elim (row_of G H k) [
          | no_box e ↦ rw e
          | one_box y a e ↦ rw (e, eq-eqb (nearest Q s y.a).q x (subst (λ (i : ℕ). (nearest Q s i).q ≡ x) (sym a) (h y (row_area y k u e) a)))
        ]

    -- Rows where no such area begins may be passed.
    pass : (a b : ℕ) → a ≤ b → b ≤ length Q → ((k : ℕ) → a ≤ k → k < b → ¬ Begins k) → under_below b ≡ under_below a
    pass a zero u v h = let e : a ≡ 0 = omega arith in rw e
    pass a (suc b) u v h =
        elim (lt_or_le b a) [
          | inl w ↦ let e : a ≡ suc b = omega arith in rw e
          | inr w ↦ rw add-one at (under_next b) ∙ rw (row_none b (omega arith) (h b w (omega arith))) (pass a b w (omega arith) (λ k lo hi. h k lo (omega arith)))
        ]

    begins_over : (k : ℕ) → Begins k → Above Q x k
    begins_over k h =
        let low = (first_fits h.0 h.1).below_q in
        subst (λ (z : ℕ). Above Q z k) h.3 (nearest_over tree_q tree_t s seed k (subst (Above Q (last_pair s).q) h.2 low))

    -- ---- a child of the pair's node

    module _ (c : ℕ) (child : Child Q x c) where
      x_inside : x < length Q
      x_inside = (seed.nodes p m).0

      last_over : (k : ℕ) → In Q c k → Above Q (last_pair s).q k
      last_over k h =
          elim (seed.rooted p m) [
            | inl e ↦ let z : x ≡ (last_pair s).q = ap q_of e in rw (← z) (omega (arith, child.0, nest tree_q c x (omega (arith, child.0))))
            | inr e ↦ omega (arith, child.0, e.0, nest tree_q c x (omega (arith, child.0)), nest tree_q x (last_pair s).q (omega (arith, e.0)))
          ]

      gap_at : get_or G c 0 ≡ gap Q (qs s) c
      gap_at = get_d_tab (length Q) (gap Q (qs s)) c 0 (omega (arith, child.0, x_inside))

      -- A child with the gap 0 has a node of the seed in its subtree, and no area under p begins there.
      in_span_none : gap Q (qs s) c ≡ 0 → (k : ℕ) → In Q c k → ¬ Begins k
      unfolding gap
      in_span_none zero-gap k h b = omega (arith, above_gap Q c (qs s) 1 (omega arith) clear x (Memᴰ.map q_of m) (top_side tree_q x c child.0))
        where
          out : ¬ Span Q (qs s) k
          out = subst (λ (i : ℕ). ¬ Span Q (qs s) i) b.2 (first_fits b.0 b.1).outside_q

          crossed : Span Q (qs s) c → ⊥
          crossed held =
              elim (lt_or_le k c) [
                | inl u ↦
                    let w = crossing tree_q (qs s) seed.border_q k c out held (h.0, u) in
                    let r = Memᴰ.of_map q_of s w.1 in
                    omega (arith, w.3, child.0, b.3, r.2, nearest_lowest tree_q tree_t s seed k r.0 r.1 (subst (λ (z : ℕ). Above Q z k) (sym r.2) w.2))
                | inr u ↦ let e : c ≡ k = omega (arith, h) in out (subst (Span Q (qs s)) e held)
              ]

          clear : (z : ℕ) → z ∈ qs s → side Q z c ≢ 3
          clear z n e = crossed (inr (z, n, (side_in tree_q z c e, rw (last_by q_of refl s) (omega (arith, last_over c (omega (arith, own tree_q c)))))))

      module _ (free : gap Q (qs s) c ≢ 0) where
        unheld : (z : ℕ) → z ∈ qs s → ¬ In Q c z
        unfolding gap
        unheld z n h = free (gap_holds tree_q (qs s) c 1 z seed.rising n h)

        -- A child with another gap is outside the span with its whole subtree: an area begins in there at its start, if at all, and is under p.
        begins_nowhere_else : (k : ℕ) → leaf Q c < k → k ≤ c → ¬ Begins k
        begins_nowhere_else k lo hi b =
            let y = b.0 in
            let fit = subst (λ (i : ℕ). FitsAt Q T s i y.c) b.2 (first_fits y b.1) in
            (area_edges tree_q tree_t s seed y b.1).no_a (k - 1) (omega (arith, b.2))
            (fits_q tree_q tree_t s seed k (k - 1) y.c fit (rw (last_by q_of refl s) (last_over (k - 1) (omega arith))) same)
          where
            clear : (z : ℕ) → z ∈ qs s → side Q z c ≢ 3
            clear z n e = unheld z n (side_in tree_q z c e)

            same : Same Q (qs s) k (k - 1)
            same z n =
                let u = side_down tree_q z c k (omega arith) (clear z n) in
                let v = side_down tree_q z c (k - 1) (omega arith) (clear z n) in
                (u ∙ sym v, λ e. clear z n (sym u ∙ e))

        begins_under : (y : Box) → Area Q T s y → y.a ≡ leaf Q c → (nearest Q s (leaf Q c)).q ≡ x
        begins_under y area e = go (lt_or_le (nearest Q s (leaf Q c)).q x) (lt_or_le c (nearest Q s (leaf Q c)).q)
          where
            over : Above Q x (leaf Q c)
            over = omega (arith, child.0, own tree_q c, nest tree_q c x (omega (arith, child.0)))

            most : (nearest Q s (leaf Q c)).q ≤ x
            most = nearest_lowest tree_q tree_t s seed (leaf Q c) p m over

            low : Above Q (last_pair s).q (leaf Q c)
            low = last_over (leaf Q c) (omega (arith, own tree_q c))

            above : Above Q (nearest Q s (leaf Q c)).q (leaf Q c)
            above = nearest_over tree_q tree_t s seed (leaf Q c) low

            go : ((nearest Q s (leaf Q c)).q < x) ⊎ (x ≤ (nearest Q s (leaf Q c)).q) → (c < (nearest Q s (leaf Q c)).q) ⊎ ((nearest Q s (leaf Q c)).q ≤ c) → (nearest Q s (leaf Q c)).q ≡ x
            go (inr u) v = omega (arith, most)
            go (inl u) (inl v) = absurd (omega (arith, child.1 (nearest Q s (leaf Q c)).q (omega (arith, above, own tree_q c))))
            go (inl u) (inr v) = absurd (unheld (nearest Q s (leaf Q c)).q (Memᴰ.map q_of (nearest_in tree_q tree_t s seed (leaf Q c) low)) (omega (arith, above)))

      -- What the rows of the child's subtree have.
      child_rows : under_below (c + 1) ≡ child_box G H c (leaf Q c) ++ under_below (leaf Q c)
      child_rows =
          elim (ℕ_discrete (gap Q (qs s) c) 0) [
            | yes e ↦
                rw (child_in_span G H c (leaf Q c) (gap_at ∙ e))
                (pass (leaf Q c) (c + 1) (omega (arith, own tree_q c)) (omega (arith, child.0, x_inside)) (λ k lo hi. in_span_none e k (omega arith)))
            | no e ↦
                rw (child_outside G H c (leaf Q c) (λ z. e (sym gap_at ∙ z)))
                (pass (leaf Q c + 1) (c + 1) (omega (arith, own tree_q c)) (omega (arith, child.0, x_inside)) (λ k lo hi. begins_nowhere_else e k (omega arith) (omega arith))
                ∙ under_next (leaf Q c)
                ∙ ap (λ (xs : List Box). xs ++ under_below (leaf Q c)) (row_all (leaf Q c) (omega (arith, own tree_q c, child.0, x_inside)) (begins_under e)))
          ]

    -- ---- all children

    children_rows : (k e : ℕ) → e ≤ k → leaf Q x ≤ e → e ≤ x → Edge Q x e → under_below e ≡ child_boxes Q G H (leaf Q x) e e ++ under_below (leaf Q x)
    children_rows zero e u lo hi edge = let z : e ≡ leaf Q x = omega arith in rw (child_end tree_q G H (leaf Q x) e (omega arith), z)
    children_rows (suc k) e u lo hi edge =
        elim (lt_or_le (leaf Q x) e) [
          | inl v ↦
              let z : e - 1 + 1 ≡ e = omega arith in
              let low = nest tree_q (e - 1) x (omega arith) in
              let rest = children_rows k (leaf Q (e - 1)) (omega (arith, own tree_q (e - 1))) low (omega (arith, own tree_q (e - 1))) (edge_next tree_q x e v hi edge) in
              rw z at (child_rows (e - 1) (edge_child tree_q x e v hi edge))
              ∙ rw (rest, child_next tree_q G H (leaf Q x) e v) (sym (append_assoc (child_box G H (e - 1) (leaf Q (e - 1))) (child_boxes Q G H (leaf Q x) (leaf Q (e - 1)) (leaf Q (e - 1))) (under_below (leaf Q x))))
          | inr v ↦ let z : e ≡ leaf Q x = omega arith in rw (child_end tree_q G H (leaf Q x) e (omega arith), z)
        ]

    pub under_walk : boxes_under Q G H x ≡ areas_under Q T s x
    unfolding boxes_under areas_under
    under_walk =
        sym
        (ap (λ (xs : List Box). reverse (those is_under xs)) (areas_meet tree_q tree_t s seed few)
        ∙ ap under_below (length_tab (length Q) (gap Q (qs s)))
        ∙ pass x (length Q) (omega (arith, seed.nodes p m)) (omega arith) (λ k lo hi b. omega (arith, begins_over k b))
        ∙ children_rows x x (omega arith) (own tree_q x) (omega arith) (λ y lo hi. absurd (omega arith))
        ∙ ap (λ (xs : List Box). child_boxes Q G H (leaf Q x) x x ++ xs) (pass 0 (leaf Q x) (omega arith) (omega (arith, own tree_q x, seed.nodes p m)) (λ k lo hi b. omega (arith, begins_over k b)))
        ∙ ap (λ (xs : List Box). child_boxes Q G H (leaf Q x) x x ++ xs) under_none
        ∙ append-nil (child_boxes Q G H (leaf Q x) x x))

  -- ---- all pairs

  pairs_walk : (r : List Pair) → ((p : Pair) → p ∈ r → p ∈ s) → flat_map (boxes_under Q G H) (qs r) ≡ flat_map (λ (p : Pair). areas_under Q T s p.q) r
  unfolding flat_map
  pairs_walk [] h = refl
  pairs_walk (p ∷ r) h = rw (under_walk p (h p (Memᴰ.head refl)), pairs_walk r (λ b n. h b (Memᴰ.tail n)))

  pub paper_walk : boxes_in_order Q (qs s) G H ≡ areas_in_paper_order Q T s
  unfolding boxes_in_order areas_in_paper_order
  paper_walk = pairs_walk s (λ p m. m)
