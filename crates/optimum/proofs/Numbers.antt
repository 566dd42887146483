-- A set of positions and the set of their numbers have the same key.
use mathlib.Core.Path.{◌≡◌, refl, sym, ap, subst, ◌∙◌}
use mathlib.Core.Bool.{Bool, false, not, cond, ◌||◌}
use Prim.Native.Nat.{ℕ, zero, suc, ◌≤◌, ◌<◌}
use native.Mathlib.Omega.{arith}
use lib.IntN.{ℤ}
use lib.Dec.{T, T_not, not_T, eqb, eqb→eq, eqb_refl}
use mir.Facts.{eqb_no}
use Rattle.std.proofs.lemmas.Bool.{ne_eqb, cases_Bool}
use mathlib.Core.Logic.{inl, inr}
use Rattle.optimum.specs.Chain.{total_of}
use Rattle.optimum.specs.Key.{Key, empty, ◌⊕◌, mask_of, seed_key}
use Rattle.optimum.specs.inner.Table.{Numbered}
use Rattle.optimum.proofs.Booleans.{Is, yes, no, is, T-eq, T-neq, or_l, or_r, or_e}
use Rattle.optimum.proofs.Keys.{⊕-swap}
use Rattle.optimum.proofs.Chains.{value, value_in, value_out, value_cong}

-- The key of a set of numbers is its total and its mask.
pub value_total : (score : ℕ → ℤ) (f : ℕ → Bool) (n : ℕ) → (value (seed_key score) f n).total ≡ total_of score f n
unfolding value total_of empty ◌⊕◌
value_total score f zero = refl
value_total score f (suc n) = let e = value_total score f n in elim (cases_Bool (f n)) [ inl y ↦ rw (y, e) | inr z ↦ rw (z, e) ]

pub value_mask : (score : ℕ → ℤ) (f : ℕ → Bool) (n : ℕ) → (value (seed_key score) f n).mask ≡ mask_of f n
unfolding value mask_of empty ◌⊕◌
value_mask score f zero = refl
value_mask score f (suc n) = let e = value_mask score f n in elim (cases_Bool (f n)) [ inl y ↦ rw (y, e) | inr z ↦ rw (z, e) ]

value_none : (w : ℕ → Key) (n : ℕ) → value w (λ i. false) n ≡ empty
unfolding value
value_none w zero = refl
value_none w (suc n) = value_none w n

-- One number more.
module _ (w : ℕ → Key) (f : ℕ → Bool) (k : ℕ) (t : T (not (f k))) where
  abbrev with_k : ℕ → Bool
  with_k i = eqb k i || f i

  insert_here : (n : ℕ) → k ≡ n → value w with_k (suc n) ≡ w k ⊕ value w f (suc n)
  insert_here n q =
      cc (
        value_in w with_k n (or_l (eqb k n) (f n) (subst (λ x. T (eqb k x)) q (eqb_refl k))),
        value_cong w with_k f n (λ i b. rw (ne_eqb k i (λ e. omega arith))),
        value_out w f n (subst (λ x. T (not (f x))) q t),
      )

  pub value_insert : (n : ℕ) → k < n → value w with_k n ≡ w k ⊕ value w f n
  value_insert zero b = absurd (omega arith)
  value_insert (suc n) b = go (is (eqb k n)) (is (f n)) (value_insert n)
    where
      go : Is (eqb k n) → Is (f n) → (k < n → value w with_k n ≡ w k ⊕ value w f n) → value w with_k (suc n) ≡ w k ⊕ value w f (suc n)
      go (yes e) r lower = insert_here n (eqb→eq k n e)
      go (no e) (yes r) lower =
          let l = lower (omega (arith, eqb_no e)) in
          cc (value_in w with_k n (or_r (eqb k n) (f n) r), value_in w f n r, ⊕-swap (w n) (w k) (value w f n))
      go (no e) (no r) lower =
          let l = lower (omega (arith, eqb_no e)) in
          cc (value_out w with_k n (not_T (with_k n) (or_e (eqb k n) (f n) (T_not (eqb k n) e) (T_not (f n) r))), value_out w f n r)

-- The numbers of the positions below n in the set f.
unfoldable pub named : (ℕ → ℕ) → (ℕ → Bool) → ℕ → ℕ → Bool
named number f zero i = false
named number f (suc n) i = cond (f n) (eqb (number n) i || named number f n i) (named number f n i)

-- A position below n in the set f that has the number i.
pub record Position (number : ℕ → ℕ) (f : ℕ → Bool) (n i : ℕ) : Type 0 where
  pub at : ℕ
  pub below : at < n
  pub inside : T (f at)
  pub numbered : number at ≡ i

module _ (number : ℕ → ℕ) (f : ℕ → Bool) where
  named_yes : (n : ℕ) → T (f n) → (i : ℕ) → named number f (suc n) i ≡ (eqb (number n) i || named number f n i)
  unfolding named
  named_yes n t i = rw (T-eq {b = f n} t)

  named_no : (n : ℕ) → T (not (f n)) → (i : ℕ) → named number f (suc n) i ≡ named number f n i
  unfolding named
  named_no n t i = rw (T-neq {b = f n} t)

  further : (n i : ℕ) → Position number f n i → Position number f (suc n) i
  further n i p = let b = p.below in record { at = p.at; below = omega arith; inside = p.inside; numbered = p.numbered }

  -- A number of the set is that of a position in it.
  pub named_only : (n i : ℕ) → T (named number f n i) → Position number f n i
  unfolding named
  named_only zero i t = absurd t
  named_only (suc n) i t = go (is (f n)) (named_only n i)
    where
      go : Is (f n) → (T (named number f n i) → Position number f n i) → Position number f (suc n) i
      go (yes s) lower =
          or_e (eqb (number n) i) (named number f n i)
          (λ e. record { at = n; below = omega arith; inside = s; numbered = eqb→eq (number n) i e })
          (λ r. further n i (lower r)) (subst T (named_yes n s i) t)
      go (no s) lower = further n i (lower (subst T (named_no n s i) t))

  -- And each position in the set has its number there.
  pub named_at : (n i : ℕ) → Position number f n i → T (named number f n i)
  unfolding named
  named_at zero i p = absurd (omega (arith, p.below))
  named_at (suc n) i p = go (is (eqb p.at n)) (is (f n)) (named_at n i)
    where
      go : Is (eqb p.at n) → Is (f n) → (Position number f n i → T (named number f n i)) → T (named number f (suc n) i)
      go (yes e) (yes s) lower =
          let q : number n ≡ i = ap number (sym (eqb→eq p.at n e)) ∙ p.numbered in
          subst T (sym (named_yes n s i)) (or_l (eqb (number n) i) (named number f n i) (subst (λ x. T (eqb (number n) x)) q (eqb_refl (number n))))
      go (yes e) (no s) lower = absurd (T_not (f n) s (subst (λ x. T (f x)) (eqb→eq p.at n e) p.inside))
      go (no e) s lower = shift s (lower (record { at = p.at; below = omega (arith, p.below, eqb_no e); inside = p.inside; numbered = p.numbered }))
        where
          shift : Is (f n) → T (named number f n i) → T (named number f (suc n) i)
          shift (yes s) r = subst T (sym (named_yes n s i)) (or_r (eqb (number n) i) (named number f n i) r)
          shift (no s) r = subst T (sym (named_no n s i)) r

-- The same for fewer items.
pub fewer : {limit : ℕ} {score : ℕ → ℤ} {number : ℕ → ℕ} {w : ℕ → Key} {n N : ℕ} → n ≤ N → Numbered limit score number w N → Numbered limit score number w n
fewer b h = record { within = λ k a. h.within k (omega arith); distinct = λ j k l a. h.distinct j k l (omega arith); worths = λ k a. h.worths k (omega arith) }

module _ (limit : ℕ) (score : ℕ → ℤ) (number : ℕ → ℕ) (w : ℕ → Key) (f : ℕ → Bool) where
  abbrev s : ℕ → Key
  s = seed_key score

  -- The positions and the numbers have the same key.
  pub value_named : (n : ℕ) → Numbered limit score number w n → value s (named number f n) limit ≡ value w f n
  unfolding value named
  value_named zero h = value_none s limit
  value_named (suc n) h = go (is (f n)) (value_named n (fewer (omega arith) h))
    where
      new : T (not (named number f n (number n)))
      new = not_T (named number f n (number n)) (λ t. let p = named_only number f n (number n) t in h.distinct p.at n p.below (omega arith) p.numbered)

      go : Is (f n) → value s (named number f n) limit ≡ value w f n → value s (named number f (suc n)) limit ≡ value w f (suc n)
      go (yes t) lower =
          value_cong s (named number f (suc n)) (λ i. eqb (number n) i || named number f n i) limit (λ i b. named_yes number f n t i)
          ∙ value_insert s (named number f n) (number n) new limit (h.within n (omega arith))
          ∙ cc (h.worths n (omega arith), value_in w f n t)
      go (no t) lower = value_cong s (named number f (suc n)) (named number f n) limit (λ i b. named_no number f n t i) ∙ lower ∙ sym (value_out w f n t)
