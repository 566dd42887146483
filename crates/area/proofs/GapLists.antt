-- The areas of a seed are the boxes of pairs whose gaps are the same.
use mathlib.Core.Path.{◌≡◌, refl, sym, ◌∙◌}
use mathlib.Core.Bool.{Bool, true, false}
use mathlib.Core.Logic.{inl, inr, ◌≢◌}
use mathlib.Core.List.{List}
use Prim.Native.Nat.{ℕ, ◌≤◌, ◌<◌}
use native.Mathlib.Omega.{arith}
use lib.ListN.{length, get_or, get_or-eq_default}
use Rattle.tree.specs.Nested.{Nested}
use Rattle.tree.proofs.Leaves.{lt_or_le}
use Rattle.seed.specs.Tab.{tab}
use Rattle.seed.specs.Seed.{Pattern, qs, ts}
use Rattle.seed.specs.Area.{FitsAt}
use Rattle.seed.specs.AreaList.{fits, areas}
use Rattle.gap.specs.GapNumbers.{gap}
use Rattle.area.specs.inner.Boxes.{same_gap, like, meet, boxes_below}
use Rattle.seed.specs.declared.Pair.{Pair}
use Rattle.seed.proofs.Tabs.{length_tab, get_d_tab}
use Rattle.answer.specs.Tells.{Tells}
use Rattle.answer.proofs.Tells.{tells_eq, tells_as, tells_and, tells_not}
use Rattle.seed.proofs.Sides.{tells_fits}
use Rattle.seed.proofs.Areas.{bound}
use Rattle.gap.proofs.GapFits.{gap_fits}

-- In a list of n numbers, those past the last are read as 0.
within : (n : ℕ) (f : ℕ → ℕ) (i : ℕ) → get_or (tab n f) i 0 ≢ 0 → i < n
within n f i h =
    elim (lt_or_le i n) [
      | inl u ↦ u
      | inr u ↦ let g : length (tab n f) ≤ i = omega (arith, length_tab n f) in absurd (h (get_or-eq_default (tab n f) 0 g))
    ]

-- Two tests that tell the same fact are the same.
told : (a b : Bool) {P : Type 0} → Tells a P → Tells b P → a ≡ b
told true b f g = sym (g.1 (f.0 refl))
told false true f g = f.1 (g.0 refl)
told false false f g = refl

module _ {Q T : List ℕ} (tree_q : Nested Q) (tree_t : Nested T) (s : List Pair) (seed : Pattern Q T s) (few : length Q ≤ 256) where
  abbrev G : List ℕ
  G = tab (length Q) (gap Q (qs s))

  abbrev H : List ℕ
  H = tab (length T) (gap T (ts s))

  tells_meet : (i j : ℕ) → Tells (meet G H i j) (FitsAt Q T s i j)
  unfolding meet like same_gap
  tells_meet i j = tells_as (tells_and _ _ (tells_eq (get_or G i 0) (get_or H j 0)) (tells_not _ (tells_eq (get_or G i 0) 0))) to from
    where
      to : (get_or G i 0 ≡ get_or H j 0) × (get_or G i 0 ≢ 0) → FitsAt Q T s i j
      to h =
          let u = get_d_tab (length Q) (gap Q (qs s)) i 0 (within (length Q) (gap Q (qs s)) i h.1) in
          let v = get_d_tab (length T) (gap T (ts s)) j 0 (within (length T) (gap T (ts s)) j (λ e. h.1 (h.0 ∙ e))) in
          (gap_fits tree_q tree_t s seed few i j).0 (sym u ∙ h.0 ∙ v, λ e. h.1 (u ∙ e))

      from : FitsAt Q T s i j → (get_or G i 0 ≡ get_or H j 0) × (get_or G i 0 ≢ 0)
      from f =
          let b = bound tree_q tree_t s seed i j f in
          let u = get_d_tab (length Q) (gap Q (qs s)) i 0 b.0 in
          let v = get_d_tab (length T) (gap T (ts s)) j 0 b.1 in
          let h = (gap_fits tree_q tree_t s seed few i j).1 f in
          (u ∙ h.0 ∙ sym v, λ e. h.1 (sym u ∙ e))

  meet_fits : fits Q T s ≡ meet G H
  meet_fits = λ k i j. told (fits Q T s i j) (meet G H i j) (tells_fits tree_q tree_t s seed.mapping i j) (tells_meet i j) k

  pub areas_meet : areas Q T s ≡ boxes_below G H (length G)
  unfolding areas boxes_below
  areas_meet = rw (meet_fits, length_tab (length Q) (gap Q (qs s)), length_tab (length T) (gap T (ts s)))
