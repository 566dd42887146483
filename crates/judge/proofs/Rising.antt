-- Rising lists by their places, and where a number cuts them.
use mathlib.Core.Path.{◌≡◌, refl, sym, ap, ◌∙◌}
use mathlib.Core.Bool.{Bool, true, false, true≢false}
use mathlib.Core.Logic.{inl, inr}
use mathlib.Core.List.{List, [], ◌∷◌}
use Prim.Native.Nat.{ℕ, zero, suc, ◌+◌, ◌-◌, ◌≤◌, ◌<◌}
use native.Mathlib.Omega.{arith}
use lib.ListN.{length, get_or}
use lib.Dec.{ltb}
use native.Mathlib.Numerals.{add-one}
use borrow.Author.Tests.{lt-ltb}
use Rattle.std.specs.List.{IsAllAdjacentAnswer}
use Rattle.answer.proofs.Tells.{tells_lt, tells_not_false}
use Rattle.tree.specs.Nested.{leaf, Nested}
use Rattle.tree.proofs.Leaves.{lt_or_le}
use Rattle.seed.specs.Seed.{Rising}
use Rattle.seed.specs.Tests.{rises, rises_from}
use Rattle.seed.proofs.Trees.{own}
use Rattle.seed.proofs.Lists.{at_in}
use Rattle.seed.proofs.SeedTest.{tells_rises}
use Rattle.judge.specs.inner.Steps.{Ups, Cut}

-- A rising list rises by its places.
ups_of : (xs : List ℕ) → Rising xs → Ups (length xs) xs
ups_of [] r j k h g = absurd (omega arith)
ups_of (x ∷ xs) r j zero h g = absurd (omega arith)
ups_of (x ∷ xs) r zero (suc k) h g = r.0 (get_or xs k 0) (at_in xs k (omega arith))
ups_of (x ∷ xs) r (suc j) (suc k) h g = ups_of xs r.1 j k (omega arith) (omega arith)

pub rises_ups : (xs : List ℕ) → rises xs ≡ true → Ups (length xs) xs
rises_ups xs e = ups_of xs ((tells_rises xs).0 e)

module _ (xs : List ℕ) {n : ℕ} (up : Ups n xs) where
  -- Of two places the earlier has at most what the later has.
  pub ups_most : (j k : ℕ) → j ≤ k → k < n → get_or xs j 0 ≤ get_or xs k 0
  ups_most j k h g =
      elim (lt_or_le j k) [
        | inl u ↦ omega (arith, up j k u g)
        | inr u ↦ let e : j ≡ k = omega arith in omega (arith, ap (λ (i : ℕ). get_or xs i 0) e)
      ]

  -- A rising list is at each place at least as high as the place.
  pub ups_grow : (k : ℕ) → k < n → k ≤ get_or xs k 0
  ups_grow zero h = omega arith
  ups_grow (suc k) h = omega (arith, ups_grow k (omega arith), up k (suc k) (omega arith) h)

  -- A cut, by what stands on its two sides.
  pub cut_at : {v f : ℕ} → f ≤ n → (0 < f → get_or xs (f - 1) 0 < v) → (f < n → v ≤ get_or xs f 0) → Cut n xs v f
  cut_at {f = f} h b a =
      record {
        within = h;
        before = λ j u. omega (arith, b (omega arith), ups_most j (f - 1) (omega arith) (omega arith));
        after = λ j u w. omega (arith, a (omega arith), ups_most f j u w);
      }

-- A rising list of bytes has at most 256.
pub bytes_few : (xs : List ℕ) → Ups (length xs) xs → ((k : ℕ) → get_or xs k 0 < 256) → length xs ≤ 256
bytes_few xs up small = elim (lt_or_le 256 (length xs)) [ inl h ↦ absurd (omega (arith, ups_grow xs up 256 h, small 256)) | inr h ↦ h ]

-- The row of the nodes below a node begins at it or before.
pub cut_early : {l : List ℕ} → Nested l → {n : ℕ} (xs : List ℕ) (i : ℕ) {start : ℕ} → Cut n xs (leaf l (get_or xs i 0)) start → start ≤ i
cut_early tree xs i {start = start} c = elim (lt_or_le i start) [ inl h ↦ absurd (omega (arith, c.before i h, own tree (get_or xs i 0))) | inr h ↦ h ]

-- A list whose neighbours rise rises.
rises_from_next : (x : ℕ) (xs : List ℕ) → ((k : ℕ) → k < length xs → get_or (x ∷ xs) k 0 < get_or xs k 0) → rises_from x xs ≡ true
unfolding rises_from
rises_from_next x [] h = refl
rises_from_next x (y ∷ ys) h = rw (lt-ltb x y (h 0 (omega arith))) (rises_from_next y ys (λ k u. h (suc k) (omega arith)))

rises_next : (xs : List ℕ) → ((k : ℕ) → k + 1 < length xs → get_or xs k 0 < get_or xs (k + 1) 0) → rises xs ≡ true
unfolding rises
rises_next [] h = refl
rises_next (x ∷ xs) h = rises_from_next x xs (λ k u. rw (add-one) at (h k (omega arith)))

-- What the look at neighbours says of a list.
pub rises_answer : (xs : List ℕ) (r : Bool) → IsAllAdjacentAnswer (λ x y b. b ≡ ltb x y) xs r → r ≡ rises xs
rises_answer xs true h = sym (rises_next xs (λ k u. (tells_lt _ _).0 (sym (h k 0 u))))
rises_answer xs false h =
    sym
    (tells_not_false (rises xs) {P = rises xs ≡ true} (λ e. e, λ e. e)
    (λ w.
    let a = rises_ups xs w h.0 (h.0 + 1) (omega arith) (omega (arith, h.1)) in
    true≢false (sym ((tells_lt _ _).1 a) ∙ sym (h.2 0))))
