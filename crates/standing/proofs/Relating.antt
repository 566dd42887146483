-- How the seeds of a list stand to one another, filled in seed by seed.
use Rattle.std.proofs.Common.{◌≡◌, ℕ, ◌+◌, ◌<◌, ◌≤◌, Bool, true, false, ◌&&◌, ltb, List, [], ◌∷◌, length, get_or, set, sym, ap, ◌∙◌, ap₂, arith, length-set, get_or-set_other, get_or-set_same, below_more, le-ltb, lt-ltb}
use borrow.Author.Tests.{lt-leb}
use Rattle.tree.specs.Nested.{leaf}
use Rattle.seed.specs.AreaList.{fits, left, under}
use Rattle.seed.specs.Tests.{above}
use Rattle.seed.specs.Pairs.{pair_of, pairs_of}
use Rattle.seed.specs.Seed.{last_pair}
use Rattle.seed.specs.declared.Pair.{Pair}
use Rattle.optimum.specs.Key.{mask_of, in_mask}
use Rattle.table.specs.Table.{nodes_of}
use Rattle.standing.specs.inner.Stands.{stand_of, masks_of, pairs_by, Lasts, alone, Composed, Lawful, Related}
use Rattle.standing.specs.declared.stands.Stand.{Stand}
use Rattle.standing.specs.declared.stands.Masks.{Masks}
use Rattle.masks.proofs.Bits.{mask_same, mask_says}

-- How a seed stands is told by its last pair: left of the other if it comes before it in Q, else under it or neither.
module _ (Q T : List ℕ) (us : List Pair) (s u : Pair) (e : u ≡ last_pair us) where
  pub stands_before : s.q < leaf Q u.q → {b : Bool} → b ≡ ltb s.t (leaf T u.t) → ◌≡◌ {A = Stand} (record { left = b; under = false }) (stand_of Q T (s ∷ []) us)
  unfolding left under fits above
  stands_before h f = rw (← e, lt-ltb s.q (leaf Q u.q) h, lt-leb (leaf Q u.q) s.q h, f)

  pub stands_behind : leaf Q u.q ≤ s.q → {b : Bool} → b ≡ fits Q T us s.q s.t → ◌≡◌ {A = Stand} (record { left = false; under = b }) (stand_of Q T (s ∷ []) us)
  unfolding left under
  stands_behind h f = rw (← e, le-ltb s.q (leaf Q u.q) h, f)

-- The last pairs of a list's seeds, filled in seed by seed.
module _ (seed : ℕ → List Pair) where
  pub lasts_start : (rq rt : List ℕ) → length rq ≡ 64 → length rt ≡ 64 → Lasts seed 0 rq rt
  lasts_start rq rt a b = record { long_q = a; long_t = b; are = λ k h. absurd (omega arith) }

  pub lasts_turn : (k : ℕ) (rq rt : List ℕ) {p : Pair} → k < 64 → Lasts seed k rq rt → p ≡ last_pair (seed k) → Lasts seed (k + 1) (set rq k p.q) (set rt k p.t)
  lasts_turn k rq rt {p = p} b h e =
      record {
        long_q = simp length-set h.long_q;
        long_t = simp length-set h.long_t;
        are =
            below_more (λ j. pair_of (get_or (set rq k p.q) j 0) (get_or (set rt k p.t) j 0) ≡ last_pair (seed j)) k
            (λ j a. rw (get_or-set_other rq k j p.q 0 (λ z. omega arith), get_or-set_other rt k j p.t 0 (λ z. omega arith)) (h.are j a))
            (rw (get_or-set_same rq k p.q 0 (omega (arith, h.long_q)), get_or-set_same rt k p.t 0 (omega (arith, h.long_t))) e);
      }

-- The pairs of a seed, from the parts of the arrays that hold them.
pub pairs_by_lem : (qs ts bounds : List ℕ) (i : ℕ) {uq ut : List ℕ} → uq ≡ nodes_of qs bounds i → ut ≡ nodes_of ts bounds i → pairs_of uq ut ≡ pairs_by qs ts bounds i
unfolding pairs_by
pairs_by_lem qs ts bounds i e f = ap₂ pairs_of e f

-- The seeds before place y of a list, by their last pairs.
module _ (seed : ℕ → List Pair) (m : ℕ) (few : m ≤ 64) (y : ℕ) (l : y < m) (rq rt : List ℕ) (a : Lasts seed y rq rt) {us : List Pair} (e : us ≡ seed y) (Q T : List ℕ) where
  left_same : (k : ℕ) → k < y → left Q T (alone rq rt k) us ≡ left Q T (seed k) (seed y)
  unfolding left
  left_same k g = rw e (ap (λ (p : Pair). ltb p.q (leaf Q (last_pair (seed y)).q) && ltb p.t (leaf T (last_pair (seed y)).t)) (a.are k g))

  under_same : (k : ℕ) → k < y → under Q T (alone rq rt k) us ≡ under Q T (seed k) (seed y)
  unfolding under
  under_same k g = rw e (ap (λ (p : Pair). fits Q T (seed y) p.q p.t) (a.are k g))

  pub masks_same : masks_of Q T (alone rq rt) us y ≡ masks_of Q T seed (seed y) y
  unfolding masks_of
  masks_same =
      ap₂ (λ (l m : ℕ). record { left = l; under = m })
      (mask_same _ _ y (λ k g. left_same k (omega arith)))
      (mask_same _ _ y (λ k g. under_same k (omega arith)))

  -- The masks before y compose with the seed there.
  module _ (lawful : Lawful Q T seed m) (lefts unders : List ℕ) (r : Related Q T seed y lefts unders) where
    left_says : (j k : ℕ) → k < y → in_mask (get_or lefts k 0) j ≡ true → (j < k) × (left Q T (seed j) (seed k) ≡ true)
    unfolding masks_of
    left_says j k g t = mask_says (λ x. left Q T (seed x) (seed k)) j k (ap (λ (x : Masks). x.left) (r.are k g)) (rw t tt)

    under_says : (j k : ℕ) → k < y → in_mask (get_or unders k 0) j ≡ true → (j < k) × (under Q T (seed j) (seed k) ≡ true)
    unfolding masks_of
    under_says j k g t = mask_says (λ x. under Q T (seed x) (seed k)) j k (ap (λ (x : Masks). x.under) (r.are k g)) (rw t tt)

    pub composed : Composed Q T (alone rq rt) us lefts unders y
    composed =
        record {
          lefts_long = omega (arith, r.lefts_long);
          unders_long = omega (arith, r.unders_long);
          left_left = λ j k g t f.
              let s = left_says j k g t in
              (omega arith, left_same j (omega arith) ∙ lawful.left_left j k y (omega arith) (omega arith) l s.1 (sym (left_same k (omega arith)) ∙ f));
          under_left = λ j k g t f.
              let s = under_says j k g t in
              (omega arith, left_same j (omega arith) ∙ lawful.under_left j k y (omega arith) (omega arith) l s.1 (sym (left_same k (omega arith)) ∙ f));
          under_under = λ j k g t f.
              let s = under_says j k g t in
              (omega arith, under_same j (omega arith) ∙ lawful.under_under j k y (omega arith) (omega arith) l s.1 (sym (under_same k (omega arith)) ∙ f));
          never_both = λ j g f d.
              lawful.never_both j y (omega arith) l (sym (left_same j (omega arith)) ∙ f) (sym (under_same j (omega arith)) ∙ d);
        }

-- The two masks of the seeds before one.
pub masks_are : (Q T : List ℕ) (seed : ℕ → List Pair) (u : List Pair) (n : ℕ) {l m : ℕ} → l ≡ mask_of (λ x. left Q T (seed x) u) n → m ≡ mask_of (λ x. under Q T (seed x) u) n → ◌≡◌ {A = Masks} (record { left = l; under = m }) (masks_of Q T seed u n)
unfolding masks_of
masks_are Q T seed u n e f = rw (← e, ← f)

module _ (Q T : List ℕ) (seed : ℕ → List Pair) where
  pub related_start : (lefts unders : List ℕ) → length lefts ≡ 64 → length unders ≡ 64 → Related Q T seed 0 lefts unders
  related_start lefts unders a b = record { lefts_long = a; unders_long = b; are = λ y h. absurd (omega arith) }

  pub related_turn : (y : ℕ) (lefts unders : List ℕ) (m : Masks) → y < 64 → Related Q T seed y lefts unders → m ≡ masks_of Q T seed (seed y) y → Related Q T seed (y + 1) (set lefts y m.left) (set unders y m.under)
  related_turn y lefts unders m b h e =
      record {
        lefts_long = simp length-set h.lefts_long;
        unders_long = simp length-set h.unders_long;
        are =
            below_more (λ k. record { left = get_or (set lefts y m.left) k 0; under = get_or (set unders y m.under) k 0 } ≡ masks_of Q T seed (seed k) k) y
            (λ k a. rw (get_or-set_other lefts y k m.left 0 (λ x. omega arith), get_or-set_other unders y k m.under 0 (λ x. omega arith)) (h.are k a))
            (rw (get_or-set_same lefts y m.left 0 (omega (arith, h.lefts_long)), get_or-set_same unders y m.under 0 (omega (arith, h.unders_long))) e);
      }
