-- Bytes stored one after another.
use mathlib.Core.Path.{◌≡◌, ap₂, ◌∙◌}
use mathlib.Core.List.{List, [], ◌∷◌, ◌++◌}
use Prim.Native.Nat.{ℕ, suc, ◌+◌, ◌≤◌}
use native.Mathlib.Nat.{add-zero, zero-add}
use native.Mathlib.Omega.{arith}
use lib.ListN.{length, set, drop}
use lib.Seq.{sets, sets-eq}

pub sets_append : (l : List ℕ) (i : ℕ) (xs ys : List ℕ) → sets (sets l i xs) (i + length xs) ys ≡ sets l i (xs ++ ys)
sets_append l i [] ys = rw (add-zero i)
sets_append l i (x ∷ xs) ys = let e : i + suc (length xs) ≡ suc i + length xs = omega arith in rw e (sets_append (set l i x) (suc i) xs ys)

-- Bytes stored behind others that were stored are both in one.
pub sets_after : (l : List ℕ) (i : ℕ) (xs ys : List ℕ) {m n : List ℕ} {j : ℕ} → m ≡ sets l i xs → n ≡ sets m j ys → j ≡ i + length xs → n ≡ sets l i (xs ++ ys)
sets_after l i xs ys a b e = b ∙ ap₂ (λ (x : List ℕ) (k : ℕ). sets x k ys) a e ∙ sets_append l i xs ys

-- Bytes stored from the start on.
pub sets_first : (l xs : List ℕ) → length xs ≤ length l → sets l 0 xs ≡ xs ++ drop (length xs) l
sets_first l xs h = sets-eq xs l 0 (omega arith) ∙ rw zero-add
