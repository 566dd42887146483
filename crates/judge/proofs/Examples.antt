-- Document 01's starred lists of pairs as document 02 (c) changes them, and lists at the other grounds, computed from the definitions.
use mathlib.Core.Path.{◌≡◌, refl}
use mathlib.Core.List.{List, [], ◌∷◌, map}
use Prim.Native.Nat.{ℕ}
use Rattle.answer.specs.Answer.{Said, said}
use Rattle.answer.specs.Answer.Said.{accepted, refused}
use Rattle.answer.specs.declared.Place.TheVariants as place
use Rattle.tree.specs.Nested.{leaf}
use Rattle.seed.specs.Pairs.{pair_of}
use Rattle.seed.specs.Tests.{every, some, every_below, above, in_subtree, node_in, nodes_in, same_kind, same_kinds, rises_from, rises, alike_at, alike_to, alike, root_of, rooted, spans, children, paired, bordered}
use Rattle.judge.specs.Judge.{pattern_answer, judge_on}
use Rattle.seed.specs.declared.Pair.{Pair}
use Rattle.seed.proofs.Examples.{A, B}

-- A list of pairs on A and B, and what is said of it as seed number 1.
record Row : Type 0 where
  pairs : List Pair
  says : Said

row : List Pair → Said → Row
row s x = record { pairs = s; says = x }

refusal : ℕ → Said
refusal g = refused g (place.Seed 1)

-- The kinds of the nodes of A and B.
kinds_of_a : List ℕ
kinds_of_a = 0 ∷ 0 ∷ 1 ∷ 1 ∷ 0 ∷ 2 ∷ []

kinds_of_b : List ℕ
kinds_of_b = 0 ∷ 1 ∷ 0 ∷ 1 ∷ 2 ∷ []

rows : List Row
rows =
    row (pair_of 2 0 ∷ pair_of 5 4 ∷ []) (refusal 25)
    ∷ row (pair_of 0 0 ∷ pair_of 1 1 ∷ []) (refusal 25)
    ∷ row (pair_of 1 0 ∷ pair_of 5 4 ∷ []) (refusal 19)
    ∷ row (pair_of 0 0 ∷ pair_of 2 1 ∷ []) (refusal 17)
    ∷ row (pair_of 0 0 ∷ pair_of 4 2 ∷ []) (refusal 18)
    ∷ row (pair_of 1 0 ∷ pair_of 3 1 ∷ []) accepted
    ∷ row (pair_of 3 1 ∷ pair_of 5 4 ∷ []) accepted
    ∷ row (pair_of 6 0 ∷ []) (refusal 15)
    ∷ row (pair_of 0 5 ∷ []) (refusal 15)
    ∷ row (pair_of 0 1 ∷ pair_of 6 0 ∷ []) (refusal 15)
    ∷ row (pair_of 0 1 ∷ pair_of 1 0 ∷ []) (refusal 25)
    ∷ row (pair_of 1 0 ∷ pair_of 0 2 ∷ []) (refusal 16)
    ∷ row (pair_of 0 0 ∷ pair_of 0 2 ∷ []) (refusal 16)
    ∷ row (pair_of 5 4 ∷ []) accepted
    ∷ []

judgements : map (λ (r : Row). said (judge_on A B kinds_of_a kinds_of_b r.pairs 1)) rows ≡ map (λ (r : Row). r.says) rows
unfolding row refusal rows kinds_of_a kinds_of_b leaf every some every_below above in_subtree node_in nodes_in same_kind same_kinds rises_from rises alike_at alike_to alike root_of rooted spans children paired bordered pattern_answer judge_on
judgements = refl
