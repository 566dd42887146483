-- Every key that the table holds, or adds on the way, is a chain's, so that its total is at most 64,000,000 and its mask below 2 ^ 64.
use mathlib.Core.Path.{◌≡◌, sym, ap, ap₂, subst, ◌∙◌}
use mathlib.Core.Bool.{Bool, true, ◌&&◌}
use Prim.Native.Nat.{ℕ, zero, suc, ◌+◌, ◌*◌, ◌^◌, ◌≤◌, ◌<◌}
use native.Mathlib.Nat.{pow-le-pow_right}
use native.Mathlib.Omega.{arith}
use lib.IntN.{ℤ, pos}
use lib.Dec.{T, leb→le}
use lib.Signed.{◌≤ℤ◌}
use Rattle.std.proofs.lemmas.Int.{ints}
use Rattle.optimum.specs.Chain.{total_of}
use Rattle.optimum.specs.Key.{Key, empty, ◌⊕◌, better, mask_of, seed_key}
use Rattle.optimum.specs.inner.Table.{Items, items_chainable, best_among, Laws, Limited, with_under, max_below, KeysUnder, KeyRow, stored, Small}
use Rattle.optimum.proofs.Booleans.{Is, yes, no, is, and_l, or_r}
use Rattle.optimum.proofs.Keys.{empty_⊕, better_ind}
use Rattle.optimum.proofs.Chains.{value, value_in, value_out, Attained, skipped, kept, weakened, best_attained}
use Rattle.optimum.proofs.Split.{Down, under_and_left}
use Rattle.optimum.proofs.Recurrence.{left_best}
use Rattle.optimum.proofs.Masks.{mask_below}
use Rattle.optimum.proofs.Numbers.{named, value_total, value_mask, fewer, value_named}

-- ---- totals

value_total_most : (w : ℕ → Key) (most : ℕ) (f : ℕ → Bool) (n : ℕ) → ((k : ℕ) → k < n → (w k).total ≤ℤ pos most) → (value w f n).total ≤ℤ pos (n * most)
unfolding value empty ◌⊕◌
value_total_most w most f zero h = omega (arith, ints)
value_total_most w most f (suc n) h = go (is (f n)) (value_total_most w most f n (λ k b. h k (omega arith)))
  where
    sum : suc n * most ≡ most + n * most
    sum = omega arith

    go : Is (f n) → (value w f n).total ≤ℤ pos (n * most) → (value w f (suc n)).total ≤ℤ pos (suc n * most)
    go (yes t) lower = rw (sum, value_in w f n t) (omega (arith, ints, h n (omega arith)))
    go (no t) lower = rw (sum, value_out w f n t) (omega (arith, ints))

pub total_most : (score : ℕ → ℤ) (most : ℕ) (f : ℕ → Bool) (n : ℕ) → ((k : ℕ) → k < n → score k ≤ℤ pos most) → total_of score f n ≤ℤ pos (n * most)
total_most score most f n h = subst (λ (t : ℤ). t ≤ℤ pos (n * most)) (value_total score f n) (value_total_most (seed_key score) most f n h)

-- ---- the keys of a table

module _ (S : Items) (N limit : ℕ) (score : ℕ → ℤ) (number : ℕ → ℕ) (limited : Limited limit score number S.worth N) where
  abbrev c : ℕ → ℕ → Bool
  c = items_chainable S

  abbrev w : ℕ → Key
  w = S.worth

  module _ (p : ℕ → Bool) (n : ℕ) (b : n ≤ N) where
    attained_mask : (k : Key) → Attained c w p n k → k.mask < 2 ^ 64
    attained_mask k a =
        let f = named number a.set n in
        let e : (value w a.set n).mask ≡ mask_of f limit = ap (λ v. v.mask) (sym (value_named limit score number w a.set n (fewer b limited.numbered))) ∙ value_mask score f limit in
        omega (arith, mask_below f limit, pow-le-pow_right {n = 2} (omega arith) limited.numbers, e, ap (λ v. v.mask) a.worth)

    attained_small : (t m : ℕ) → Attained c w p n (stored t m) → Small t m
    attained_small t m a =
        let i = limited.items in
        let h : (value w a.set n).total ≤ℤ pos (n * 1000000) = value_total_most w 1000000 a.set n (λ k d. rw (limited.numbered.worths k (omega arith)) (limited.scores k (omega arith))) in
        let h' : pos t ≤ℤ pos (n * 1000000) = rw a.worth at h in
        record { total = omega (arith, leb→le t (n * 1000000) h'.le); mask = attained_mask (stored t m) a }

  -- The numbers of a best key are small.
  pub best_small : (p : ℕ → Bool) (n : ℕ) → n ≤ N → (t m : ℕ) → best_among S p n ≡ stored t m → Small t m
  best_small p n b t m e = attained_small p n b t m (rw (← e) (best_attained c w p n))

  -- The mask of an item with the best chain under it fits 64 bits.
  pub under_small : (y : ℕ) → y < N → (t m : ℕ) → best_among S (λ x. S.under x y) y ≡ stored t m → (S.worth y).mask + m < 2 ^ 64
  unfolding ◌⊕◌
  under_small y b t m e =
      omega (
        arith,
        ap (λ k. k.mask) e,
        attained_mask (λ x. true) (suc y) (omega arith) _ (kept c w (λ x. true) y _ tt (weakened c w (λ x. S.under x y) (λ x. c x y) (λ x. or_r (S.left x y) (S.under x y)) y _ (best_attained c w (λ x. S.under x y) y))),
      )

  module _ (laws : Laws S N) (p : ℕ → Bool) (dp : Down S p N) where
    entry_attained : (y : ℕ) → y < N → T (p y) → Attained c w p (suc y) (better empty (with_under S y) ⊕ best_among S (λ x. p x && S.left x y) y)
    entry_attained y b t =
        better_ind (λ v. Attained c w p (suc y) (v ⊕ best_among S (λ x. p x && S.left x y) y)) empty (with_under S y)
        (rw empty_⊕ (skipped c w p y _ (weakened c w (λ x. p x && S.left x y) p (λ x. and_l (p x) (S.left x y)) y _ (best_attained c w (λ x. p x && S.left x y) y))))
        (rw (under_and_left S N laws p dp y b t) (kept c w p y _ t (best_attained c w (λ x. p x && c x y) y)))

    -- The numbers of an entry of a row, an item's key in v with the best of the row left of it, are small.
    pub entry_small : (v d : ℕ → Key) (n k : ℕ) → n ≤ N → k < n → T (p k) → KeysUnder S v n → KeyRow S.left p v d k → (t m : ℕ) → v k ⊕ max_below (λ j. p j && S.left j k) d k ≡ stored t m → Small t m
    unfolding KeysUnder
    entry_small v d n k b a s f r t m e =
        attained_small p (suc k) (omega arith) t m
        (rw (← (ap₂ ◌⊕◌ (sym (f k a)) (sym (left_best S N laws p dp v d k (omega arith) (λ y h. f y (omega arith)) r)) ∙ e)) (entry_attained k (omega arith) s))
