-- The best key computes.
use mathlib.Core.Path.{◌≡◌, refl}
use mathlib.Core.Bool.{true}
use mathlib.Core.List.{[], ◌∷◌}
use lib.IntN.{pos}
use lib.Dec.{eqb}
use lib.ListN.{get_or}
use Rattle.optimum.specs.Key.{empty, ◌⊕◌, no_better, better, seed_key}
use Rattle.optimum.specs.Best.{best}

-- Three seeds of scores 3, 2 and 2, of which only the first is chainable with another: 0 1 and 0 2 both have total 5, and 0 1 wins.
pub three : best (λ i j. eqb i 0) (seed_key (λ i. get_or (pos 3 ∷ pos 2 ∷ pos 2 ∷ []) i (pos 0))) (λ i. true) 3 ≡ record { total = pos 5; mask = 3 }
unfolding best empty ◌⊕◌ no_better better
three = refl
