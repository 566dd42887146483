-- Bytes copied into an array: what ends before them, and the copy itself.
use mathlib.Core.Path.{◌≡◌, sym, ap, ◌∙◌}
use mathlib.Core.List.{List, ◌++◌}
use Prim.Native.Nat.{ℕ, ◌+◌, ◌-◌, ◌≤◌}
use native.Mathlib.Omega.{arith}
use lib.ListN.{length, take, drop, length-drop, take-append-drop}
use lib.Seq.{paste, length_paste_head, drop-append-le, take-append-le, drop_at, take_at, length-take-le, take-length}
use Rattle.table.specs.Table.{between}

-- A part of a list with another list behind it.
between_append : (x y : List ℕ) (a b : ℕ) → a ≤ b → b ≤ length x → between (x ++ y) a b ≡ between x a b
unfolding between
between_append x y a b h k =
    ap (take (b - a)) (drop-append-le a x y (omega arith)) ∙ take-append-le (b - a) (drop a x) y (omega (arith, length-drop a x))

-- What ends before a copy is as it was.
pub between_before : (d s : List ℕ) (at n a b : ℕ) → at ≤ length d → n ≤ length s → a ≤ b → b ≤ at → between (paste d at s n) a b ≡ between d a b
between_before d s at n a b hd hs h k =
    between_append (take at d ++ take n s) (drop (at + n) d) a b h (omega (arith, length_paste_head d at s n hd hs))
    ∙ between_append (take at d) (take n s) a b h (omega (arith, length-take-le at d hd))
    ∙ sym (between_append (take at d) (drop at d) a b h (omega (arith, length-take-le at d hd)))
    ∙ ap (λ (l : List ℕ). between l a b) (take-append-drop at d)

-- The copy itself.
pub between_copied : (d s : List ℕ) (at n : ℕ) → at + n ≤ length d → length s ≡ n → between (paste d at s (length s)) at (at + n) ≡ s
unfolding between
between_copied d s at n hd hs =
    let e : at + n - at ≡ length s = omega arith in
    let hd' : at ≤ length d = omega arith in
    let all : length (take (length s) s) ≡ length s = ap length (take-length s) in
    ap (λ (k : ℕ). take k (drop at (paste d at s (length s)))) e
    ∙ ap (take (length s)) (drop-append-le at (take at d ++ take (length s) s) (drop (at + length s) d) (omega (arith, length_paste_head d at s (length s) hd' (omega arith)))
    ∙ ap (λ (l : List ℕ). l ++ drop (at + length s) d) (drop_at (take at d) (take (length s) s) at (length-take-le at d hd')))
    ∙ take_at (take (length s) s) (drop (at + length s) d) (length s) all
    ∙ take-length s
