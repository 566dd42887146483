-- The table gives the best key: whatever fills a row by the recurrence does.
use mathlib.Core.Path.{◌≡◌, sym, ap, ◌∙◌}
use mathlib.Core.Bool.{Bool, true, ◌&&◌}
use Prim.Native.Nat.{ℕ, zero, suc, ◌≤◌, ◌<◌}
use native.Mathlib.Omega.{arith}
use lib.Dec.{T}
use Rattle.optimum.specs.Key.{Key, empty, ◌⊕◌, better}
use Rattle.optimum.specs.inner.Table.{Items, items_chainable, best_among, Laws, with_under, max_below, KeysUnder, KeyRow}
use Rattle.optimum.proofs.Booleans.{Is, yes, no, is, T-ext, and_i, and_l, and_r, up_to}
use Rattle.optimum.proofs.Keys.{◌≼◌, ≼_trans, ≼-mono, ⊕-comm, ⊕-empty}
use Rattle.optimum.proofs.Maxima.{max_in, max_out, max_cong, max_upper}
use Rattle.optimum.proofs.Chains.{best_out, best_cong, best_none}
use Rattle.optimum.proofs.Split.{Down, down_all, down_under, down_left, best_step}

-- A row grows by one, whatever stands past it.
pub row_next : (left : ℕ → ℕ → Bool) (p : ℕ → Bool) (v d d' : ℕ → Key) (n : ℕ) → KeyRow left p v d n → ((k : ℕ) → k < n → d' k ≡ d k) → (T (p n) → d' n ≡ v n ⊕ max_below (λ j. p j && left j n) d n) → KeyRow left p v d' (suc n)
unfolding KeyRow
row_next left p v d d' n r same here =
    up_to n (λ k b t. same k b ∙ r k b t ∙ ap (λ x. v k ⊕ x) (moved k (omega arith))) (λ t. here t ∙ ap (λ x. v n ⊕ x) (moved n (omega arith)))
  where
    moved : (m : ℕ) → m ≤ n → max_below (λ j. p j && left j m) d m ≡ max_below (λ j. p j && left j m) d' m
    moved m c = max_cong (λ j. p j && left j m) d d' m (λ j e. sym (same j (omega arith)))

-- In a row of keys no worse than the empty chain's an item is no better than one that it is left of.
pub row_rises : (left : ℕ → ℕ → Bool) (p : ℕ → Bool) (v d : ℕ → Key) (n : ℕ) → KeyRow left p v d n → (j k : ℕ) → j < k → k < n → empty ≼ v k → T (p j) → T (p k) → T (left j k) → d j ≼ d k
unfolding KeyRow
row_rises left p v d n r j k a b e s t l =
    let m = max_below (λ i. p i && left i k) d k in
    let low : d j ≼ m = max_upper (λ i. p i && left i k) d k j a (and_i (p j) (left j k) s l) in
    let more : m ≼ m ⊕ v k = rw ⊕-empty at (≼-mono m e) in
    rw (r k b t, ⊕-comm (v k) m) (≼_trans low more)

module _ (S : Items) (N : ℕ) (laws : Laws S N) where
  -- The tests for which a row of p gives the best: p itself, and what of p is left of an item.
  record Part (p q : ℕ → Bool) : Type 0 where
    low : Down S q N
    only : (k : ℕ) → k < N → T (q k) → T (p k)
    closed : (j k : ℕ) → j < N → k < N → T (q k) → T (p j) → T (S.left j k) → T (q j)

  part_all : (p : ℕ → Bool) → Down S p N → Part p p
  part_all p dp = record { low = dp; only = λ k b t. t; closed = λ j k a b t r s. r }

  part_left : (p : ℕ → Bool) → Down S p N → (y : ℕ) → y < N → Part p (λ j. p j && S.left j y)
  part_left p dp y b =
      record {
        low = down_left S N laws p dp y b;
        only = λ k a t. and_l (p k) (S.left k y) t;
        closed = λ j k a d t r s. and_i (p j) (S.left j y) r (laws.left_left j k y a d b s (and_r (p k) (S.left k y) t));
      }

  same_left : (p q : ℕ → Bool) → Part p q → (n : ℕ) → n < N → T (q n) → (j : ℕ) → j < n → (q j && S.left j n) ≡ (p j && S.left j n)
  same_left p q h n b t j a =
      T-ext _ _
      (λ r. and_i (p j) (S.left j n) (h.only j (omega arith) (and_l (q j) (S.left j n) r)) (and_r (q j) (S.left j n) r))
      (λ r. and_i (q j) (S.left j n) (h.closed j n (omega arith) b t (and_l (p j) (S.left j n) r) (and_r (p j) (S.left j n) r)) (and_r (p j) (S.left j n) r))

  module _ (p : ℕ → Bool) (dp : Down S p N) (v d : ℕ → Key) where
    part_more : (n : ℕ) → n < N → ((q : ℕ → Bool) → Part p q → max_below q d n ≡ best_among S q n) → v n ≡ better empty (with_under S n) → (T (p n) → d n ≡ v n ⊕ max_below (λ j. p j && S.left j n) d n) → (q : ℕ → Bool) → Part p q → Is (q n) → max_below q d (suc n) ≡ best_among S q (suc n)
    part_more n b lower f r q h (yes t) =
        cc (
          max_in q d n t,
          lower q h,
          r (h.only n b t),
          f,
          lower (λ j. p j && S.left j n) (part_left p dp n b),
          best_cong (items_chainable S) S.worth (λ j. q j && S.left j n) (λ j. p j && S.left j n) n (same_left p q h n b t),
          best_step S N laws q h.low n b t,
        )
    part_more n b lower f r q h (no t) = cc (max_out q d n t, lower q h, best_out (items_chainable S) S.worth q n t)

    part_best : (n : ℕ) → n ≤ N → KeysUnder S v n → KeyRow S.left p v d n → (q : ℕ → Bool) → Part p q → max_below q d n ≡ best_among S q n
    unfolding KeysUnder KeyRow max_below
    part_best zero b f r q h = sym (best_none (items_chainable S) S.worth q 0 (λ x a. absurd (omega arith)))
    part_best (suc n) b f r q h = part_more n (omega arith) (part_best n (omega arith) (λ y a. f y (omega arith)) (λ k a. r k (omega arith))) (f n (omega arith)) (r n (omega arith)) q h (is (q n))

    -- A row over the items that pass p gives their best key.
    pub row_best : (n : ℕ) → n ≤ N → KeysUnder S v n → KeyRow S.left p v d n → max_below p d n ≡ best_among S p n
    row_best n b f r = part_best n b f r p (part_all p dp)

    -- A row below an item gives the best key of those that pass p and are left of it.
    pub left_best : (y : ℕ) → y < N → KeysUnder S v y → KeyRow S.left p v d y → max_below (λ j. p j && S.left j y) d y ≡ best_among S (λ j. p j && S.left j y) y
    left_best y b f r = part_best y (omega arith) f r (λ j. p j && S.left j y) (part_left p dp y b)

  -- One more item: the row over the items under it gives its key.
  pub filled_next : (v v' d : ℕ → Key) (n : ℕ) → n < N → KeysUnder S v n → KeyRow S.left (λ k. S.under k n) v d n → ((k : ℕ) → k < n → v' k ≡ v k) → v' n ≡ better empty (S.worth n ⊕ max_below (λ k. S.under k n) d n) → KeysUnder S v' (suc n)
  unfolding KeysUnder with_under
  filled_next v v' d n b f r same e =
      up_to n (λ y a. same y a ∙ f y a) (e ∙ ap (λ k. better empty (S.worth n ⊕ k)) (row_best (λ k. S.under k n) (down_under S N laws n b) v d n (omega arith) f r))

  -- The row over all items gives the best key.
  pub answer : (v d : ℕ → Key) → KeysUnder S v N → KeyRow S.left (λ k. true) v d N → max_below (λ k. true) d N ≡ best_among S (λ x. true) N
  answer v d f r = row_best (λ k. true) (down_all S N) v d N (omega arith) f r
