-- The part of an array that holds a seed's nodes: cut to the array it is the same, and how long it is.
use mathlib.Core.Path.{◌≡◌, sym, ◌∙◌}
use mathlib.Core.Logic.{⊎_elim}
use mathlib.Core.List.{List, []}
use Prim.Native.Nat.{ℕ, ◌+◌, ◌-◌, ◌≤◌, min}
use native.Mathlib.Omega.{arith}
use lib.ListN.{length, get_or, take, drop, length-drop, drop_of_length-le, get_or-eq_default}
use lib.Seq.{length-take-le, take_all, take-nil}
use Rattle.tree.proofs.Leaves.{lt_or_le}
use Rattle.table.specs.Table.{between, nodes_of}

pub between_length : (l : List ℕ) (a b : ℕ) → a ≤ b → b ≤ length l → length (between l a b) ≡ b - a
unfolding between
between_length l a b h k = length-take-le (b - a) (drop a l) (omega (arith, length-drop a l))

-- There is no part past the last place.
pub nodes_none : (nodes bounds : List ℕ) (i : ℕ) → length bounds ≤ i → [] ≡ nodes_of nodes bounds i
unfolding nodes_of between
nodes_none nodes bounds i h =
    let to : get_or bounds (i + 1) 0 ≡ 0 = get_or-eq_default bounds 0 (omega arith) in
    let none : get_or bounds (i + 1) 0 - get_or bounds i 0 ≡ 0 = omega arith in
    rw none

-- A part whose ends are cut to the list, and whose start is cut to its end.
module _ (l : List ℕ) (from to : ℕ) where
  empty_part : (a b : ℕ) → b ≤ a → to ≤ from → take (b - a) (drop a l) ≡ between l from to
  unfolding between
  empty_part a b h k =
      let x : b - a ≡ 0 = omega arith in
      let y : to - from ≡ 0 = omega arith in
      rw (x, y)

  cut_part : to ≤ length l → take (to - min from to) (drop (min from to) l) ≡ between l from to
  unfolding between
  cut_part h = ⊎_elim
      (λ k. empty_part (min from to) to (omega arith) (omega arith))
      (λ k. let e : min from to ≡ from = omega arith in rw e)
      (lt_or_le to from)

  past_part : length l ≤ to → take (length l - min from (length l)) (drop (min from (length l)) l) ≡ between l from to
  unfolding between
  past_part h = ⊎_elim
      (λ k. let e : length l - min from (length l) ≡ 0 = omega arith in
      rw (e, drop_of_length-le l {i = from} (omega arith)) (sym (take-nil (to - from))))
      (λ k. let e : min from (length l) ≡ from = omega arith in
      rw e (take_all (length l - from) (drop from l) (omega (arith, length-drop from l)) ∙ sym (take_all (to - from) (drop from l) (omega (arith, length-drop from l)))))
      (lt_or_le (length l) from)

  clipped : (a b : ℕ) → b ≡ min to (length l) → a ≡ min from b → take (b - a) (drop a l) ≡ between l from to
  clipped a b is_b is-a = ⊎_elim
      (λ h. let e : b ≡ length l = omega arith in let f : a ≡ min from (length l) = omega arith in rw (e, f) (past_part (omega arith)))
      (λ h. let e : b ≡ to = omega arith in let f : a ≡ min from to = omega arith in rw (e, f) (cut_part h))
      (lt_or_le (length l) to)

pub nodes_clipped : (nodes bounds : List ℕ) (i a b : ℕ) {from to : ℕ} → to ≡ get_or bounds (i + 1) 0 → from ≡ get_or bounds i 0 → b ≡ min to (length nodes) → a ≡ min from b → take (b - a) (drop a nodes) ≡ nodes_of nodes bounds i
unfolding nodes_of
nodes_clipped nodes bounds i a b is-to is-from is_b is-a = clipped nodes (get_or bounds i 0) (get_or bounds (i + 1) 0) a b (rw is-to at is_b) (rw is-from at is-a)
