-- A key that is put into a bank of the scratch, and the search for the best of a bank.
use mathlib.Core.Path.{◌≡◌, refl, sym, ap, ap₂, ◌∙◌}
use mathlib.Core.Bool.{Bool, true, false}
use mathlib.Core.List.{List}
use mathlib.Core.Logic.{◌≢◌, inl, inr}
use Prim.Native.Nat.{ℕ, zero, suc, ◌+◌, ◌^◌, ◌≤◌, ◌<◌}
use native.Mathlib.Numerals.{add-one}
use native.Mathlib.Omega.{arith}
use lib.Bits.{bit_or}
use lib.Dec.{T}
use lib.ListN.{length, get_or, set, length-set}
use lib.Seq.{get_or-set_same, get_or-set_other}
use Rattle.tree.proofs.Leaves.{lt_or_le}
use Rattle.optimum.specs.Key.{Key, empty, better, in_mask}
use Rattle.optimum.specs.inner.Table.{max_below, stored}
use Rattle.optimum.proofs.Keys.{◌≼◌, ≼_refl, ≼_trans, ≼-antisym, better_l, better_r, better_ind}
use Rattle.optimum.proofs.Maxima.{max_empty, max_upper, max_least}
use Rattle.masks.specs.Masks.{minus}
use Rattle.best.specs.inner.Scratch.{key_at, row_bank, marked, RowRises}
use Rattle.masks.proofs.Bits.{in_either, alone_is, minus_from, minus_gone, nothing}

module _ (xs ys : List ℕ) (base k t m : ℕ) (e : ys ≡ set (set xs (base + k) t) (base + 64 + k) m) where
  pub put_long : length ys ≡ length xs
  put_long = rw e (simp length-set)

  -- Every other place is as it was.
  pub put_beside : (j : ℕ) → j ≢ base + k → j ≢ base + 64 + k → get_or ys j 0 ≡ get_or xs j 0
  put_beside j a b = rw e (get_or-set_other (set xs (base + k) t) (base + 64 + k) j m 0 b ∙ get_or-set_other xs (base + k) j t 0 a)

  module _ (few : k < 64) (room : base + 128 ≤ length xs) where
    pub put_here : key_at ys base k ≡ stored t m
    put_here =
        rw (
          e,
          get_or-set_other (set xs (base + k) t) (base + 64 + k) (base + k) m 0 (λ x. omega arith),
          get_or-set_same xs (base + k) t 0 (omega arith),
          get_or-set_same (set xs (base + k) t) (base + 64 + k) m 0 (rw (length-set xs (base + k) t) (omega arith)),
        )

    pub put_before : (j : ℕ) → j < k → key_at ys base j ≡ key_at xs base j
    put_before j b =
        ap₂ stored
        (put_beside (base + j) (λ x. omega arith) (λ x. omega arith))
        (put_beside (base + 64 + j) (λ x. omega arith) (λ x. omega arith))

-- The best of none, and one more.
pub max_start : (p : ℕ → Bool) (d : ℕ → Key) → stored 0 0 ≡ max_below p d 0
unfolding max_below empty
max_start p d = refl

-- The numbers that do not pass change nothing, and one that does is considered.
pub max_past : (p : ℕ → Bool) (d : ℕ → Key) (k n : ℕ) → k ≤ n → ((j : ℕ) → k ≤ j → j < n → p j ≡ false) → max_below p d k ≡ max_below p d n
unfolding max_below
max_past p d k zero h f = let z : k ≡ zero = omega arith in ap (max_below p d) z
max_past p d k (suc n) h f =
    elim (lt_or_le n k) [
      | inl g ↦ (let z : k ≡ suc n = omega arith in ap (max_below p d) z)
      | inr g ↦ max_past p d k n g (λ j a b. f j a (omega arith)) ∙ rw (f n g (omega arith))
    ]

pub max_turn : (p : ℕ → Bool) (d : ℕ → Key) (k n : ℕ) {a b r : Key} → k ≤ n → ((j : ℕ) → k ≤ j → j < n → p j ≡ false) → p n ≡ true → a ≡ max_below p d k → b ≡ d n → r ≡ better a b → r ≡ max_below p d (n + 1)
unfolding max_below
max_turn p d k n h f t e g q = rw (add-one n, t, ← max_past p d k n h f, ← e, ← g) q

-- ---- the best of a mask, of which the items in rest are still to be looked at

pub record Searched (mask : ℕ) (d : ℕ → Key) (rest : ℕ) (best : Key) : Type 0 where
  pub of : (j : ℕ) → in_mask rest j ≡ true → in_mask mask j ≡ true
  pub seen : (j : ℕ) → j < 64 → T (in_mask mask j) → in_mask rest j ≡ false → d j ≼ best
  pub clipped : empty ≼ best
  pub reached : best ≼ max_below (in_mask mask) d 64

pub search_start : (mask : ℕ) (d : ℕ → Key) → Searched mask d mask (stored 0 0)
unfolding empty
search_start mask d =
    record {
      of = λ j t. t;
      seen = λ j b t e. absurd (rw e at t);
      clipped = ≼_refl empty;
      reached = max_empty (in_mask mask) d 64;
    }

module _ {xs lefts : List ℕ} {mask : ℕ} (r : RowRises xs lefts mask) {rest : ℕ} {best : Key} (s : Searched mask (key_at xs row_bank) rest best) where
  abbrev d : ℕ → Key
  d = key_at xs row_bank

  -- Item k is looked at, and what is left of it need not be.
  pub search_turn : (k : ℕ) → k < 64 → in_mask rest k ≡ true → {key best' : Key} {rest' : ℕ} → key ≡ d k → best' ≡ better best key → rest' ≡ minus rest (bit_or (2 ^ k) (get_or lefts k 0)) → Searched mask d rest' best'
  search_turn k few on {rest' = rest'} e f g =
      rw (f, e)
      (record {
        of = λ j t. s.of j (minus_from rest (bit_or (2 ^ k) (get_or lefts k 0)) j (sym (ap (λ (m : ℕ). in_mask m j) g) ∙ t));
        seen = λ j b t z.
            elim (minus_gone rest (bit_or (2 ^ k) (get_or lefts k 0)) j b (sym (ap (λ (m : ℕ). in_mask m j) g) ∙ z)) [
              | inl u ↦ ≼_trans (s.seen j b t u) (better_l best (d k))
              | inr u ↦ elim (in_either (2 ^ k) (get_or lefts k 0) j u) [ inl v ↦ rw (alone_is k j v) (better_r best (d k)) | inr v ↦ ≼_trans (lower j t (rw v tt)) (better_r best (d k)) ]
            ];
        clipped = ≼_trans s.clipped (better_l best (d k));
        reached = better_ind (λ x. x ≼ max_below (in_mask mask) d 64) best (d k) s.reached (max_upper (in_mask mask) d 64 k few there);
      })
    where
      there : T (in_mask mask k)
      there = rw (s.of k on) tt

      lower : (j : ℕ) → T (in_mask mask j) → T (marked lefts j k) → d j ≼ d k
      lower j t u = rw (r.rises j k t there u) at (better_l (d j) (d k))

  -- All are looked at.
  pub search_end : rest ≡ 0 → best ≡ max_below (in_mask mask) d 64
  search_end z = ≼-antisym s.reached (max_least (in_mask mask) d 64 best s.clipped (λ j b t. s.seen j b t (ap (λ (m : ℕ). in_mask m j) z ∙ nothing j)))
