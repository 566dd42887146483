-- The best key over the numbers that pass a test.
use mathlib.Core.Path.{◌≡◌, refl}
use mathlib.Core.Bool.{Bool, not}
use Prim.Native.Nat.{ℕ, zero, suc, ◌<◌}
use native.Mathlib.Omega.{arith}
use lib.Dec.{T}
use Rattle.optimum.specs.Key.{Key, empty, better}
use Rattle.optimum.specs.inner.Table.{max_below}
use Rattle.optimum.proofs.Booleans.{Is, yes, no, is, T-eq, T-neq, up_to}
use Rattle.optimum.proofs.Keys.{◌≼◌, ≼_refl, ≼_trans, better_l, better_r, better_ind}

pub max_in : (p : ℕ → Bool) (d : ℕ → Key) (n : ℕ) → T (p n) → max_below p d (suc n) ≡ better (max_below p d n) (d n)
unfolding max_below
max_in p d n h = rw (T-eq {b = p n} h)

pub max_out : (p : ℕ → Bool) (d : ℕ → Key) (n : ℕ) → T (not (p n)) → max_below p d (suc n) ≡ max_below p d n
unfolding max_below
max_out p d n h = rw (T-neq {b = p n} h)

-- It reads its table below n only.
pub max_cong : (p : ℕ → Bool) (d e : ℕ → Key) (n : ℕ) → ((k : ℕ) → k < n → d k ≡ e k) → max_below p d n ≡ max_below p e n
unfolding max_below
max_cong p d e zero h = refl
max_cong p d e (suc n) h = cc (max_cong p d e n (λ k b. h k (omega arith)), h n (omega arith))

-- It grows, it is no worse than any key that it is taken over, and it is the least such that is no worse than the empty chain's.
max_grows : (p : ℕ → Bool) (d : ℕ → Key) (n : ℕ) → max_below p d n ≼ max_below p d (suc n)
max_grows p d n = go (is (p n))
  where
    go : Is (p n) → max_below p d n ≼ max_below p d (suc n)
    go (yes t) = rw (max_in p d n t) (better_l (max_below p d n) (d n))
    go (no t) = rw (max_out p d n t) (≼_refl (max_below p d n))

pub max_empty : (p : ℕ → Bool) (d : ℕ → Key) (n : ℕ) → empty ≼ max_below p d n
unfolding max_below
max_empty p d zero = ≼_refl empty
max_empty p d (suc n) = ≼_trans (max_empty p d n) (max_grows p d n)

pub max_upper : (p : ℕ → Bool) (d : ℕ → Key) (n j : ℕ) → j < n → T (p j) → d j ≼ max_below p d n
max_upper p d zero j b t = absurd (omega arith)
max_upper p d (suc n) j b t =
    up_to {P = λ i. T (p i) → d i ≼ max_below p d (suc n)} n
    (λ i c s. ≼_trans (max_upper p d n i c s) (max_grows p d n))
    (λ s. rw (max_in p d n s) (better_r (max_below p d n) (d n))) j b t

pub max_least : (p : ℕ → Bool) (d : ℕ → Key) (n : ℕ) (b : Key) → empty ≼ b → ((j : ℕ) → j < n → T (p j) → d j ≼ b) → max_below p d n ≼ b
unfolding max_below
max_least p d zero b e h = e
max_least p d (suc n) b e h = go (is (p n)) (max_least p d n b e (λ j a. h j (omega arith)))
  where
    go : Is (p n) → max_below p d n ≼ b → max_below p d (suc n) ≼ b
    go (yes t) low = rw (max_in p d n t) (better_ind (λ x. x ≼ b) (max_below p d n) (d n) low (h n (omega arith) t))
    go (no t) low = rw (max_out p d n t) low
