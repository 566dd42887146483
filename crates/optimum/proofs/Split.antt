-- How the best key comes apart, by the laws of left and under: with an item y it is that of y with the best under it, and the best left of it.
use mathlib.Core.Path.{◌≡◌}
use mathlib.Core.Bool.{Bool, true, not, ◌&&◌, ◌||◌, and-or_distrib_right}
use Prim.Native.Nat.{ℕ, zero, suc, ◌≤◌, ◌<◌}
use native.Mathlib.Omega.{arith}
use lib.Dec.{T, T_not, not_T}
use Rattle.optimum.specs.Key.{Key, empty, ◌⊕◌, better}
use Rattle.optimum.specs.inner.Table.{Items, items_chainable, best_among, Laws, with_under}
use Rattle.optimum.proofs.Booleans.{Is, yes, no, is, T-ext, and_i, and_l, and_r, or_l, or_r, or_e}
use Rattle.optimum.proofs.Keys.{⊕-comm, ⊕-assoc, ⊕-empty, ⊕-swap, ⊕-better, better_clipped}
use Rattle.optimum.proofs.Chains.{best_in_lem, best_out, best_cong, best_none, best_mono}

-- An item under one that passes p passes p.
abbrev pub Down : Items → (ℕ → Bool) → ℕ → Type 0
Down S p n = (x y : ℕ) → x < n → y < n → T (p y) → T (S.under x y) → T (p x)

pub down_all : (S : Items) (n : ℕ) → Down S (λ x. true) n
down_all S n x y a b t r = tt

module _ (S : Items) (N : ℕ) (laws : Laws S N) where
  abbrev c : ℕ → ℕ → Bool
  c = items_chainable S

  abbrev w : ℕ → Key
  w = S.worth

  -- Each item of the kind l is left of each of the kind u.
  abbrev Crossed : (ℕ → Bool) → (ℕ → Bool) → ℕ → Type 0
  Crossed l u n = (x z : ℕ) → x < n → z < n → T (l x) → T (u z) → T (S.left x z)

  -- One item more, from what is known of those below it.
  module _ (l u : ℕ → Bool) (n : ℕ) (b : n < N) (cr : Crossed l u (suc n)) where
    -- The items of either kind, and those of each kind that are chainable with n.
    abbrev either : ℕ → Bool
    either x = l x || u x

    abbrev l_kept : ℕ → Bool
    l_kept x = l x && c x n

    abbrev u_kept : ℕ → Bool
    u_kept x = u x && c x n

    rises : (x : ℕ) → x < suc n → T (l n) → T (u x) → n < x
    rises x a t r = laws.left_rises n x b (omega arith) (cr n x (omega arith) a t r)

    no_u : T (l n) → (x : ℕ) → x < n → T (not (u x))
    no_u t x a = not_T (u x) (λ r. omega (arith, rises x (omega arith) t r))

    no_u_kept : T (l n) → (x : ℕ) → x < n → T (not (u_kept x))
    no_u_kept t x a = not_T (u_kept x) (λ h. T_not (u x) (no_u t x a) (and_l (u x) (c x n) h))

    either_kept : T (u n) → (x : ℕ) → x < n → (either x && c x n) ≡ (l x || u_kept x)
    either_kept r x a =
        T-ext _ _
        (λ t. or_e (l x) (u x) (or_l (l x) (u_kept x)) (λ v. or_r (l x) (u_kept x) (and_i (u x) (c x n) v (and_r (either x) (c x n) t))) (and_l (either x) (c x n) t))
        (or_e (l x) (u_kept x)
        (λ t. and_i (either x) (c x n) (or_l (l x) (u x) t) (or_l (S.left x n) (S.under x n) (cr x n (omega arith) (omega arith) t r)))
        (λ t. and_i (either x) (c x n) (or_r (l x) (u x) (and_l (u x) (c x n) t)) (and_r (u x) (c x n) t)))

    split_more : best_among S either n ≡ best_among S l n ⊕ best_among S u n → best_among S (λ x. l_kept x || u_kept x) n ≡ best_among S l_kept n ⊕ best_among S u_kept n → best_among S (λ x. l x || u_kept x) n ≡ best_among S l n ⊕ best_among S u_kept n → best_among S either (suc n) ≡ best_among S l (suc n) ⊕ best_among S u (suc n)
    split_more e f g = go (is (l n)) (is (u n))
      where
        go : Is (l n) → Is (u n) → best_among S either (suc n) ≡ best_among S l (suc n) ⊕ best_among S u (suc n)
        go (yes t) (yes r) = absurd (omega (arith, rises n (omega arith) t r))
        go (yes t) (no r) =
            cc (
              best_in_lem c w either n (or_l (l n) (u n) t),
              best_cong c w (λ x. either x && c x n) (λ x. l_kept x || u_kept x) n (λ x a. and-or_distrib_right (l x) (u x) (c x n)),
              best_none c w u n (no_u t),
              best_none c w u_kept n (no_u_kept t),
              best_in_lem c w l n t,
              best_out c w u n r,
              ⊕-empty (best_among S l n),
              ⊕-empty (best_among S l_kept n),
              ⊕-empty (best_among S l (suc n)),
            )
        go (no t) (yes r) =
            cc (
              best_in_lem c w either n (or_r (l n) (u n) r),
              best_cong c w (λ x. either x && c x n) (λ x. l x || u_kept x) n (either_kept r),
              best_out c w l n t,
              best_in_lem c w u n r,
              ⊕-better (best_among S l n) (best_among S u n) (w n ⊕ best_among S u_kept n),
              ⊕-swap (w n) (best_among S l n) (best_among S u_kept n),
            )
        go (no t) (no r) = cc (best_out c w either n (not_T (either n) (or_e (l n) (u n) (T_not (l n) t) (T_not (u n) r))), best_out c w l n t, best_out c w u n r)

  -- If the items of one kind are left of those of another, the best of both is the two together.
  split : (l u : ℕ → Bool) (n : ℕ) → n ≤ N → Crossed l u n → best_among S (λ x. l x || u x) n ≡ best_among S l n ⊕ best_among S u n
  split l u zero b cr = cc (best_none c w (λ x. l x || u x) 0 (λ x a. absurd (omega arith)), best_none c w l 0 (λ x a. absurd (omega arith)), best_none c w u 0 (λ x a. absurd (omega arith)), ⊕-empty empty)
  split l u (suc n) b cr =
      split_more l u n (omega arith) cr
      (split l u n (omega arith) (λ x z a d. cr x z (omega arith) (omega arith)))
      (split (λ x. l x && c x n) (λ x. u x && c x n) n (omega arith) (λ x z a d t r. cr x z (omega arith) (omega arith) (and_l (l x) (c x n) t) (and_l (u z) (c z n) r)))
      (split l (λ x. u x && c x n) n (omega arith) (λ x z a d t r. cr x z (omega arith) (omega arith) t (and_l (u z) (c z n) r)))

  pub down_under : (y : ℕ) → y < N → Down S (λ x. S.under x y) N
  down_under y b x z a d t r = laws.under_under x z y a d b r t

  pub down_left : (p : ℕ → Bool) → Down S p N → (y : ℕ) → y < N → Down S (λ x. p x && S.left x y) N
  down_left p dp y b x z a d t r = and_i (p x) (S.left x y) (dp x z a d (and_l (p z) (S.left z y) t) r) (laws.under_left x z y a d b r (and_r (p z) (S.left z y) t))

  module _ (p : ℕ → Bool) (dp : Down S p N) (y : ℕ) (b : y < N) (t : T (p y)) where
    parts : (x : ℕ) → x < y → (p x && c x y) ≡ (p x && S.left x y || S.under x y)
    parts x a =
        T-ext _ _
        (λ h. or_e (S.left x y) (S.under x y) (λ l. or_l (p x && S.left x y) (S.under x y) (and_i (p x) (S.left x y) (and_l (p x) (c x y) h) l)) (or_r (p x && S.left x y) (S.under x y)) (and_r (p x) (c x y) h))
        (or_e (p x && S.left x y) (S.under x y)
        (λ h. and_i (p x) (c x y) (and_l (p x) (S.left x y) h) (or_l (S.left x y) (S.under x y) (and_r (p x) (S.left x y) h)))
        (λ h. and_i (p x) (c x y) (dp x y (omega arith) b t h) (or_r (S.left x y) (S.under x y) h)))

    -- An item with the best under it and the best left of it is the item with the best that it is chainable with.
    pub under_and_left : with_under S y ⊕ best_among S (λ x. p x && S.left x y) y ≡ w y ⊕ best_among S (λ x. p x && c x y) y
    unfolding with_under
    under_and_left =
        let l : ℕ → Bool = λ x. p x && S.left x y in
        let u : ℕ → Bool = λ x. S.under x y in
        cc (
          best_cong c w (λ x. p x && c x y) (λ x. l x || u x) y parts,
          split l u y (omega arith) (λ x z a d h k. laws.left_under x y z (omega arith) b (omega arith) (and_r (p x) (S.left x y) h) k),
          ⊕-comm (best_among S l y) (best_among S u y),
          ⊕-assoc (w y) (best_among S u y) (best_among S l y),
        )

    -- One item more; its key with the best under it may be clipped at the empty chain.
    pub best_step : best_among S p (suc y) ≡ better (best_among S p y) (better empty (with_under S y) ⊕ best_among S (λ x. p x && S.left x y) y)
    best_step =
        cc (
          best_in_lem c w p y t,
          under_and_left,
          better_clipped (best_among S p y) (best_among S (λ x. p x && S.left x y) y) (with_under S y) (best_mono c w (λ x. p x && S.left x y) p (λ x. and_l (p x) (S.left x y)) y),
        )
