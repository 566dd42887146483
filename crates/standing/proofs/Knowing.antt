-- How the seeds before one stand to it, found from the nearest on: what is found of a seed tells of those left of it and under it.
use Rattle.std.proofs.Common.{◌≡◌, ℕ, ◌-◌, ◌^◌, ◌<◌, ◌≤◌, Bool, true, false, ◌||◌, ◌⊎◌, List, [], ◌∷◌, get_or, sym, refl, ap, ◌∙◌, inl, inr, arith, ltb→lt, lt-ltb, eq-eqb}
use mathlib.Core.Bool.{false≢true}
use lib.Bits.{bit_or}
use Rattle.seed.specs.AreaList.{left, under}
use Rattle.seed.specs.declared.Pair.{Pair}
use Rattle.optimum.specs.Key.{mask_of, in_mask}
use Rattle.optimum.proofs.Masks.{mask_self}
use Rattle.standing.specs.inner.Stands.{widened_by, masks_widened, stand_of, Composed}
use Rattle.standing.specs.declared.stands.Stand.{Stand}
use Rattle.standing.specs.declared.stands.Masks.{Masks}
use Rattle.masks.specs.Masks.{minus}
use Rattle.masks.proofs.Bits.{either, in_either, mask_same, mask_past, alone_has, alone_is, below_has, minus_from, minus_gone, nothing}

-- ---- what a widened mask has

or_left : (a b : Bool) → a ≡ true → (a || b) ≡ true
or_left a b e = rw e

or_right : (a b : Bool) → b ≡ true → (a || b) ≡ true
or_right true b e = refl
or_right false b e = e

-- What a widened mask has comes from the mask, or, if it is on, is k or one of the other mask.
module _ (mask : ℕ) (on : Bool) (k more : ℕ) {r : ℕ} (e : r ≡ widened_by mask on k more) where
  wide_if : (b : Bool) → on ≡ b → (j : ℕ) → in_mask (widened_by mask b k more) j ≡ true → (in_mask mask j ≡ true) ⊎ ((on ≡ true) × ((j ≡ k) ⊎ (in_mask more j ≡ true)))
  unfolding widened_by
  wide_if false f j h = inl h
  wide_if true f j h =
      elim (in_either (bit_or mask (2 ^ k)) more j h) [
        | inr m ↦ inr (f, inr m)
        | inl g ↦ elim (in_either mask (2 ^ k) j g) [ inl m ↦ inl m | inr m ↦ inr (f, inl (alone_is k j m)) ]
      ]

  wide_from : (j : ℕ) → in_mask r j ≡ true → (in_mask mask j ≡ true) ⊎ ((on ≡ true) × ((j ≡ k) ⊎ (in_mask more j ≡ true)))
  wide_from j h = wide_if on refl j (sym (ap (λ (m : ℕ). in_mask m j) e) ∙ h)

  keeps_if : (b : Bool) (j : ℕ) → in_mask mask j ≡ true → in_mask (widened_by mask b k more) j ≡ true
  unfolding widened_by
  keeps_if false j h = h
  keeps_if true j h = either (bit_or mask (2 ^ k)) more j ∙ or_left (in_mask (bit_or mask (2 ^ k)) j) (in_mask more j) (either mask (2 ^ k) j ∙ or_left (in_mask mask j) (in_mask (2 ^ k) j) h)

  wide_keeps : (j : ℕ) → in_mask mask j ≡ true → in_mask r j ≡ true
  wide_keeps j h = ap (λ (m : ℕ). in_mask m j) e ∙ keeps_if on j h

  wide_has : on ≡ true → in_mask r k ≡ true
  unfolding widened_by
  wide_has f =
      ap (λ (m : ℕ). in_mask m k) (e ∙ ap (λ (b : Bool). widened_by mask b k more) f)
      ∙ either (bit_or mask (2 ^ k)) more k
      ∙ or_left (in_mask (bit_or mask (2 ^ k)) k) (in_mask more k) (either mask (2 ^ k) k ∙ or_right (in_mask mask k) (in_mask (2 ^ k) k) (alone_has k k ∙ eq-eqb k k refl))

-- ---- the masks of the seeds before place y, of which those in the mask rest are still to be looked at

pub record Known (F G : ℕ → Bool) (y rest l u : ℕ) : Type 0 where
  pub inside : (j : ℕ) → in_mask rest j ≡ true → j < y
  pub left_true : (j : ℕ) → in_mask l j ≡ true → (j < y) × (F j ≡ true)
  pub under_true : (j : ℕ) → in_mask u j ≡ true → (j < y) × (G j ≡ true)
  pub left_has : (j : ℕ) → j < y → in_mask rest j ≡ false → F j ≡ true → in_mask l j ≡ true
  pub under_has : (j : ℕ) → j < y → in_mask rest j ≡ false → G j ≡ true → in_mask u j ≡ true

pub known_start : (F G : ℕ → Bool) (y : ℕ) → Known F G y (2 ^ y - 1) 0 0
known_start F G y =
    record {
      inside = λ j h. ltb→lt j y (rw (← below_has y j, h) tt);
      left_true = λ j h. absurd (false≢true (sym (nothing j) ∙ h));
      under_true = λ j h. absurd (false≢true (sym (nothing j) ∙ h));
      left_has = λ j a e. absurd (false≢true (sym e ∙ below_has y j ∙ lt-ltb j y a));
      under_has = λ j a e. absurd (false≢true (sym e ∙ below_has y j ∙ lt-ltb j y a));
    }

same_true : (a b : Bool) → (a ≡ true → b ≡ true) → (b ≡ true → a ≡ true) → a ≡ b
same_true true b f g = sym (f refl)
same_true false true f g = g refl
same_true false false f g = refl

module _ {F G : ℕ → Bool} {y : ℕ} where
  -- Every seed is looked at.
  module _ {rest l u : ℕ} (h : Known F G y rest l u) (none : rest ≡ 0) (few : y ≤ 64) where
    is_mask : (f : ℕ → Bool) (m : ℕ) → m < 2 ^ 64 → ((j : ℕ) → in_mask m j ≡ true → (j < y) × (f j ≡ true)) → ((j : ℕ) → j < y → f j ≡ true → in_mask m j ≡ true) → m ≡ mask_of f y
    is_mask f m b true' has =
        mask_self 64 m b
        ∙ mask_past (in_mask m) y 64 few (λ j a c. same_true _ false (λ t. absurd (omega (arith, (true' j t).0))) (λ t. absurd (false≢true t)))
        ∙ mask_same (in_mask m) f y (λ j c. same_true _ _ (λ t. (true' j t).1) (has j c))

    looked_at : (j : ℕ) → in_mask rest j ≡ false
    looked_at j = ap (λ (m : ℕ). in_mask m j) none ∙ nothing j

    pub known_left : l < 2 ^ 64 → l ≡ mask_of F y
    known_left b = is_mask F l b h.left_true (λ j c. h.left_has j c (looked_at j))

    pub known_under : u < 2 ^ 64 → u ≡ mask_of G y
    known_under b = is_mask G u b h.under_true (λ j c. h.under_has j c (looked_at j))

module _ (Q T : List ℕ) (seed : ℕ → List Pair) (w : List Pair) (lefts unders : List ℕ) (y : ℕ) (c : Composed Q T seed w lefts unders y) where
  abbrev F : ℕ → Bool
  F j = left Q T (seed j) w

  abbrev G : ℕ → Bool
  G j = under Q T (seed j) w

  -- Seed k is looked at, and all that it tells of need not be.
  module _ {rest l u : ℕ} (h : Known F G y rest l u) (few : y ≤ 64) (k : ℕ) (on : in_mask rest k ≡ true) {l' u' rest' : ℕ} (p : l' ≡ widened_by l (F k) k (bit_or (get_or lefts k 0) (get_or unders k 0))) (q : u' ≡ widened_by u (G k) k (get_or unders k 0)) (r : rest' ≡ minus rest (bit_or (bit_or (2 ^ k) l') u')) where
    below : k < y
    below = h.inside k on

    left_new : (j : ℕ) → F k ≡ true → (j ≡ k) ⊎ (in_mask (bit_or (get_or lefts k 0) (get_or unders k 0)) j ≡ true) → (j < y) × (F j ≡ true)
    left_new j f (inl z) = rw z (below, f)
    left_new j f (inr m) = elim (in_either (get_or lefts k 0) (get_or unders k 0) j m) [ inl s ↦ c.left_left j k below s f | inr s ↦ c.under_left j k below s f ]

    under_new : (j : ℕ) → G k ≡ true → (j ≡ k) ⊎ (in_mask (get_or unders k 0) j ≡ true) → (j < y) × (G j ≡ true)
    under_new j f (inl z) = rw z (below, f)
    under_new j f (inr m) = c.under_under j k below m f

    left_found : (j : ℕ) → in_mask l' j ≡ true → (j < y) × (F j ≡ true)
    left_found j t = elim (wide_from l (F k) k (bit_or (get_or lefts k 0) (get_or unders k 0)) p j t) [ inl m ↦ h.left_true j m | inr m ↦ left_new j m.0 m.1 ]

    under_found : (j : ℕ) → in_mask u' j ≡ true → (j < y) × (G j ≡ true)
    under_found j t = elim (wide_from u (G k) k (get_or unders k 0) q j t) [ inl m ↦ h.under_true j m | inr m ↦ under_new j m.0 m.1 ]

    -- What is no longer to be looked at was not before, is k, or was found.
    told : (j : ℕ) → j < y → in_mask rest' j ≡ false → (in_mask rest j ≡ false) ⊎ ((j ≡ k) ⊎ ((in_mask l' j ≡ true) ⊎ (in_mask u' j ≡ true)))
    told j a e =
        elim (minus_gone rest (bit_or (bit_or (2 ^ k) l') u') j (omega arith) (sym (ap (λ (m : ℕ). in_mask m j) r) ∙ e)) [
          | inl s ↦ inl s
          | inr s ↦ inr (elim (in_either (bit_or (2 ^ k) l') u' j s) [
            | inr m ↦ inr (inr m)
            | inl m ↦ elim (in_either (2 ^ k) l' j m) [ inl z ↦ inl (alone_is k j z) | inr z ↦ inr (inl z) ]
          ])
        ]

    left_kept : (j : ℕ) → j < y → in_mask rest' j ≡ false → F j ≡ true → in_mask l' j ≡ true
    left_kept j a e f =
        elim (told j a e) [
          | inl s ↦ wide_keeps l (F k) k (bit_or (get_or lefts k 0) (get_or unders k 0)) p j (h.left_has j a s f)
          | inr (inl z) ↦ rw z (wide_has l (F k) k (bit_or (get_or lefts k 0) (get_or unders k 0)) p (rw z at f))
          | inr (inr (inl m)) ↦ m
          | inr (inr (inr m)) ↦ absurd (c.never_both j a f (under_found j m).1)
        ]

    under_kept : (j : ℕ) → j < y → in_mask rest' j ≡ false → G j ≡ true → in_mask u' j ≡ true
    under_kept j a e f =
        elim (told j a e) [
          | inl s ↦ wide_keeps u (G k) k (get_or unders k 0) q j (h.under_has j a s f)
          | inr (inl z) ↦ rw z (wide_has u (G k) k (get_or unders k 0) q (rw z at f))
          | inr (inr (inl m)) ↦ absurd (c.never_both j a (left_found j m).1 f)
          | inr (inr (inr m)) ↦ m
        ]

    known_more : Known F G y rest' l' u'
    known_more =
        record {
          inside = λ j t. h.inside j (minus_from rest (bit_or (bit_or (2 ^ k) l') u') j (sym (ap (λ (m : ℕ). in_mask m j) r) ∙ t));
          left_true = left_found;
          under_true = under_found;
          left_has = left_kept;
          under_has = under_kept;
        }

  -- The same of two masks at once.
  module _ {rest : ℕ} {m m' : Masks} (h : Known F G y rest m.left m.under) (few : y ≤ 64) (k : ℕ) (on : in_mask rest k ≡ true) (st : Stand) (s : Pair) (e : st ≡ stand_of Q T (s ∷ []) w) (g : s ∷ [] ≡ seed k) (f : m' ≡ masks_widened m st k (get_or lefts k 0) (get_or unders k 0)) where
    with_is : m' ≡ masks_widened m (stand_of Q T (seed k) w) k (get_or lefts k 0) (get_or unders k 0)
    with_is = f ∙ ap (λ (x : Stand). masks_widened m x k (get_or lefts k 0) (get_or unders k 0)) (e ∙ ap (λ (x : List Pair). stand_of Q T x w) g)

    pub known_with : {rest' : ℕ} → rest' ≡ minus rest (bit_or (bit_or (2 ^ k) m'.left) m'.under) → Known F G y rest' m'.left m'.under
    known_with r = known_more h few k on (ap (λ (x : Masks). x.left) with_is) (ap (λ (x : Masks). x.under) with_is) r
