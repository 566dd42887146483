-- As many of a list as are asked for and as there are.
use mathlib.Core.Path.{◌≡◌, refl, sym, ap, ◌∙◌}
use mathlib.Core.List.{List, [], ◌∷◌}
use Prim.Native.Nat.{ℕ, zero, suc, min}
use lib.ListN.{length, take, length-take}
use Rattle.seed.specs.declared.Pair.{Pair}

take_front : (c : ℕ) (xs : List Pair) → take (length (take c xs)) xs ≡ take c xs
take_front zero xs = refl
take_front (suc c) [] = refl
take_front (suc c) (x ∷ xs) = ap (λ (rest : List Pair). x ∷ rest) (take_front c xs)

pub take_least : (c : ℕ) (xs : List Pair) → take (min c (length xs)) xs ≡ take c xs
take_least c xs = ap (λ (m : ℕ). take m xs) (sym (length-take c xs)) ∙ take_front c xs
