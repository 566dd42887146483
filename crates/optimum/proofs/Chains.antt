-- The best key is that of a chain, and no chain has a better one.
use mathlib.Core.Path.{◌≡◌, refl, ap, ◌∙◌}
use mathlib.Core.Bool.{Bool, false, not, cond, ◌&&◌, ◌||◌}
use Prim.Native.Nat.{ℕ, zero, suc, ◌<◌}
use native.Mathlib.Omega.{arith}
use lib.Dec.{T, not_T, eqb, eqb→eq, eqb_refl}
use Rattle.std.proofs.lemmas.Bool.{ne_eqb}
use Rattle.optimum.specs.Key.{Key, empty, ◌⊕◌, better}
use Rattle.optimum.specs.Best.{best}
use Rattle.optimum.proofs.Booleans.{Is, yes, no, is, T-eq, T-neq, and_i, and_l, and_r, or_l, or_e}
use Rattle.optimum.proofs.Keys.{◌≼◌, ≼_refl, ≼_trans, ≼-mono, better_l, better_r, better_ind}

-- ---- the key of a set of items: the sum of their worths

unfoldable pub value : (ℕ → Key) → (ℕ → Bool) → ℕ → Key
value w f zero = empty
value w f (suc n) = cond (f n) (w n ⊕ value w f n) (value w f n)

pub value_in : (w : ℕ → Key) (f : ℕ → Bool) (n : ℕ) → T (f n) → value w f (suc n) ≡ w n ⊕ value w f n
unfolding value
value_in w f n t = rw (T-eq {b = f n} t)

pub value_out : (w : ℕ → Key) (f : ℕ → Bool) (n : ℕ) → T (not (f n)) → value w f (suc n) ≡ value w f n
unfolding value
value_out w f n t = rw (T-neq {b = f n} t)

pub value_cong : (w : ℕ → Key) (f g : ℕ → Bool) (n : ℕ) → ((i : ℕ) → i < n → f i ≡ g i) → value w f n ≡ value w g n
unfolding value
value_cong w f g zero h = refl
value_cong w f g (suc n) h = cc (value_cong w f g n (λ i b. h i (omega arith)), h n (omega arith))

-- ---- the best key

module _ (c : ℕ → ℕ → Bool) (w : ℕ → Key) where
  pub best_in_lem : (p : ℕ → Bool) (n : ℕ) → T (p n) → best c w p (suc n) ≡ better (best c w p n) (w n ⊕ best c w (λ x. p x && c x n) n)
  unfolding best
  best_in_lem p n t = rw (T-eq {b = p n} t)

  pub best_out : (p : ℕ → Bool) (n : ℕ) → T (not (p n)) → best c w p (suc n) ≡ best c w p n
  unfolding best
  best_out p n t = rw (T-neq {b = p n} t)

  -- It reads its tests below n only.
  pub best_cong : (p q : ℕ → Bool) (n : ℕ) → ((x : ℕ) → x < n → p x ≡ q x) → best c w p n ≡ best c w q n
  unfolding best
  best_cong p q zero h = refl
  best_cong p q (suc n) h =
      cc (
        best_cong p q n (λ x b. h x (omega arith)),
        best_cong (λ x. p x && c x n) (λ x. q x && c x n) n (λ x b. ap (λ y. y && c x n) (h x (omega arith))),
        h n (omega arith),
      )

  pub best_none : (p : ℕ → Bool) (n : ℕ) → ((x : ℕ) → x < n → T (not (p x))) → best c w p n ≡ empty
  unfolding best
  best_none p zero h = refl
  best_none p (suc n) h = best_out p n (h n (omega arith)) ∙ best_none p n (λ x b. h x (omega arith))

  best_skip : (p : ℕ → Bool) (n : ℕ) → best c w p n ≼ best c w p (suc n)
  best_skip p n = go (is (p n))
    where
      go : Is (p n) → best c w p n ≼ best c w p (suc n)
      go (yes t) = rw (best_in_lem p n t) (better_l _ _)
      go (no t) = rw (best_out p n t) (≼_refl _)

  -- No chain has a better key.
  pub best_upper : (p f : ℕ → Bool) (n : ℕ) → ((k : ℕ) → k < n → T (f k) → T (p k)) → ((j k : ℕ) → j < k → k < n → T (f j) → T (f k) → T (c j k)) → value w f n ≼ best c w p n
  unfolding value best
  best_upper p f zero a h = ≼_refl empty
  best_upper p f (suc n) a h = go (is (f n)) (λ q s. best_upper q f n s (λ j k l b. h j k l (omega arith)))
    where
      go : Is (f n) → ((q : ℕ → Bool) → ((k : ℕ) → k < n → T (f k) → T (q k)) → value w f n ≼ best c w q n) → value w f (suc n) ≼ best c w p (suc n)
      go (no t) lower = rw (value_out w f n t) (≼_trans (lower p (λ k b. a k (omega arith))) (best_skip p n))
      go (yes t) lower =
          rw (value_in w f n t, best_in_lem p n (a n (omega arith) t))
          (≼_trans
          (≼-mono (w n) (lower (λ x. p x && c x n) (λ k b s. and_i (p k) (c k n) (a k (omega arith) s) (h k n b (omega arith) s t))))
          (better_r _ _))

  -- A key is that of a chain of items below n that pass p.
  pub record Attained (p : ℕ → Bool) (n : ℕ) (k : Key) : Type 0 where
    pub set : ℕ → Bool
    pub below : (i : ℕ) → T (set i) → i < n
    pub passes : (i : ℕ) → T (set i) → T (p i)
    pub pairwise : (i j : ℕ) → i < j → T (set i) → T (set j) → T (c i j)
    pub worth : value w set n ≡ k

  pub skipped : (p : ℕ → Bool) (n : ℕ) (k : Key) → Attained p n k → Attained p (suc n) k
  skipped p n k a =
      record {
        set = a.set;
        below = λ i t. omega (arith, a.below i t);
        passes = a.passes;
        pairwise = a.pairwise;
        worth = value_out w a.set n (not_T (a.set n) (λ t. omega (arith, a.below n t))) ∙ a.worth;
      }

  pub kept : (p : ℕ → Bool) (n : ℕ) (k : Key) → T (p n) → Attained (λ x. p x && c x n) n k → Attained p (suc n) (w n ⊕ k)
  kept p n k t a =
      record {
        set = set;
        below = λ i. or_e (eqb n i) (a.set i) (λ e. omega (arith, eqb→eq n i e)) (λ s. omega (arith, a.below i s));
        passes = λ i. or_e (eqb n i) (a.set i) (λ e. rw (← eqb→eq n i e) t) (λ s. and_l (p i) (c i n) (a.passes i s));
        pairwise = λ i j l s r. or_e (eqb n j) (a.set j) (λ e. last i j l s (eqb→eq n j e)) (λ r'. earlier i j l s r') r;
        worth =
            value_in w set n (or_l (eqb n n) (a.set n) (eqb_refl n))
            ∙ ap (λ v. w n ⊕ v) (value_cong w set a.set n (λ i b. rw (ne_eqb n i (λ e. omega arith))) ∙ a.worth);
      }
    where
      set : ℕ → Bool
      set i = eqb n i || a.set i

      last : (i j : ℕ) → i < j → T (set i) → n ≡ j → T (c i j)
      last i j l s e = rw (← e) (or_e (eqb n i) (a.set i) (λ e'. absurd (omega (arith, eqb→eq n i e'))) (λ s'. and_r (p i) (c i n) (a.passes i s')) s)

      earlier : (i j : ℕ) → i < j → T (set i) → T (a.set j) → T (c i j)
      earlier i j l s r = or_e (eqb n i) (a.set i) (λ e'. absurd (omega (arith, eqb→eq n i e', a.below j r))) (λ s'. a.pairwise i j l s' r) s

  pub weakened : (p q : ℕ → Bool) → ((x : ℕ) → T (p x) → T (q x)) → (n : ℕ) (k : Key) → Attained p n k → Attained q n k
  weakened p q f n k a = record { set = a.set; below = a.below; passes = λ i t. f i (a.passes i t); pairwise = a.pairwise; worth = a.worth }

  -- The best key is that of a chain.
  pub best_attained : (p : ℕ → Bool) (n : ℕ) → Attained p n (best c w p n)
  unfolding best value
  best_attained p zero = record { set = λ i. false; below = λ i t. absurd t; passes = λ i t. absurd t; pairwise = λ i j l t. absurd t; worth = refl }
  best_attained p (suc n) = go (is (p n)) (best_attained p n) (best_attained (λ x. p x && c x n) n)
    where
      go : Is (p n) → Attained p n (best c w p n) → Attained (λ x. p x && c x n) n (best c w (λ x. p x && c x n) n) → Attained p (suc n) (best c w p (suc n))
      go (yes t) a b = rw (best_in_lem p n t) (better_ind (λ k. Attained p (suc n) k) _ _ (skipped p n _ a) (kept p n _ t b))
      go (no t) a b = rw (best_out p n t) (skipped p n _ a)

  -- Fewer items, no better a chain.
  pub best_mono : (p q : ℕ → Bool) → ((x : ℕ) → T (p x) → T (q x)) → (n : ℕ) → best c w p n ≼ best c w q n
  best_mono p q f n =
      let a = best_attained p n in
      rw (← a.worth) (best_upper q a.set n (λ k b t. f k (a.passes k t)) (λ j k l b. a.pairwise j k l))
