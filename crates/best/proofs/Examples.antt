-- Best chains of small decks, computed from the definitions.
use mathlib.Core.Path.{◌≡◌, refl}
use mathlib.Core.Bool.{Bool, true, false, cond}
use mathlib.Core.List.{List, [], ◌∷◌, map}
use Prim.Native.Nat.{ℕ, suc, ◌-◌}
use lib.IntN.{ℤ, pos, negsuc}
use Rattle.answer.specs.Answer.{Said, said}
use Rattle.answer.specs.Answer.Said.{accepted, refused}
use Rattle.answer.specs.declared.Place.TheVariants.{Nothing}
use Rattle.tree.specs.Nested.{leaf}
use Rattle.seed.specs.Tests.{every, above}
use Rattle.seed.specs.AreaList.{side, level, fits, left, under, chainable}
use Rattle.seed.specs.Pairs.{pair_of}
use Rattle.optimum.specs.Key.{in_mask, empty, ◌⊕◌, no_better, better}
use Rattle.optimum.specs.Best as optimum
use Rattle.seed.specs.Tab.{tab}
use Rattle.table.specs.Rows.{Row}
use Rattle.best.specs.Best.{key_of, scratch_needed, best_of}
use Rattle.best.specs.declared.Best.{Best}
use Rattle.answer.specs.Refusal.{answer_in}
use Rattle.answer.specs.declared.Refusal.{Refusal}
use Rattle.std.proofs.Common.{Result, Ok, Err}

-- The leftmost leaves of `(.(.)).` and of `(.)(.)`.
abbrev A : List ℕ
A = 0 ∷ 1 ∷ 1 ∷ 0 ∷ 4 ∷ 0 ∷ []

abbrev B : List ℕ
B = 0 ∷ 0 ∷ 2 ∷ 2 ∷ 0 ∷ []

-- The row of a seed of one pair, with its score and its presence.
one : ℕ → ℕ → ℤ → Bool → Row
one q t score present = record { pairs = pair_of q t ∷ []; score = score; present = present }

-- The numbers, counted from k, of those answered yes.
numbers : ℕ → List Bool → List ℕ
numbers k [] = []
numbers k (b ∷ bs) = cond b (k ∷ numbers (suc k) bs) (numbers (suc k) bs)

-- Seeds on A and B and a scratch of so many numbers; what is said, the total, and the numbers of the chain, counted from 1.
record Case : Type 0 where
  seeds : List Row
  room : ℕ
  says : Said
  total : ℕ
  chain : List ℕ

answered : Case → Result Best Refusal
answered r = best_of A B r.seeds r.room

shown_as : Case → Result Best Refusal → Case
unfolding numbers
shown_as r (Ok best) = record { seeds = r.seeds; room = r.room; says = accepted; total = best.total; chain = numbers 1 best.chain }
shown_as r (Err refusal) = record { seeds = r.seeds; room = r.room; says = said (answer_in {T = Best} (Err refusal)); total = 0; chain = [] }

shown : Case → Case
unfolding answered
shown r = shown_as r (answered r)

-- The five seeds, with the score of the fourth and the presence of the second.
five : ℤ → Bool → List Row
unfolding one
five score present = one 2 1 (pos 3) true ∷ one 4 3 (pos 2) present ∷ one 1 0 (pos 1) true ∷ one 3 1 score true ∷ one 0 2 (negsuc 0) true ∷ []

case : List Row → ℕ → List ℕ → Case
case seeds total chain = record { seeds = seeds; room = scratch_needed; says = accepted; total = total; chain = chain }

cases : List Case
unfolding one five case
cases =
    case (five (pos 3) true) 6 (1 ∷ 2 ∷ 3 ∷ [])
    ∷ case (five (pos 4) true) 7 (2 ∷ 3 ∷ 4 ∷ [])
    ∷ case (five (pos 4) false) 5 (3 ∷ 4 ∷ [])
    ∷ case [] 0 []
    ∷ case (one 2 1 (pos 0) true ∷ []) 0 []
    ∷ case (one 2 1 (negsuc 0) true ∷ []) 0 []
    ∷ record { seeds = five (pos 3) true; room = scratch_needed - 1; says = refused 21 Nothing; total = 0; chain = [] }
    ∷ []

best_chains : map shown cases ≡ cases
unfolding one numbers answered shown_as shown five case cases leaf every above side level fits left under chainable in_mask empty ◌⊕◌ no_better better optimum.best key_of tab best_of
best_chains = refl
