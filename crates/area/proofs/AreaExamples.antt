-- Areas of small seeds, and others at their edges, computed from the definitions.
use Rattle.std.proofs.Common.{Ok, Err}
use mathlib.Core.Path.{◌≡◌, refl}
use mathlib.Core.List.{List, [], ◌∷◌, map}
use Prim.Native.Nat.{ℕ}
use Rattle.answer.specs.declared.Ground.TheVariants.{OutputShort}
use Rattle.answer.specs.declared.Place.TheVariants.{Nothing}
use Rattle.answer.specs.Refusal.{refusal_at}
use Rattle.write.specs.Wrote.{output_of}
use Rattle.tree.specs.Nested.{leaf}
use Rattle.seed.specs.Tests.{every, above}
use Rattle.seed.specs.AreaList.{side, level, fits, first_below, last_below, column, box_at, begins, box_row, boxes, areas, bytes_of}
use Rattle.area.specs.Listed.{listed_of}
use Rattle.seed.specs.Pairs.{pair_of}
use Rattle.seed.specs.declared.Pair.{Pair}

-- The leftmost leaves of `(.(.)).` and `(.)(.)`, and of `(.).` and `(..).`.
abbrev A : List ℕ
A = 0 ∷ 1 ∷ 1 ∷ 0 ∷ 4 ∷ 0 ∷ []

abbrev B : List ℕ
B = 0 ∷ 0 ∷ 2 ∷ 2 ∷ 0 ∷ []

abbrev C : List ℕ
C = 0 ∷ 0 ∷ 2 ∷ 0 ∷ []

abbrev D : List ℕ
D = 0 ∷ 1 ∷ 0 ∷ 3 ∷ 0 ∷ []

-- Two trees, a seed, and the bytes of its areas.
record Row : Type 0 where
  q : List ℕ
  t : List ℕ
  seed : List Pair
  bytes : List ℕ

abbrev row : List ℕ → List ℕ → List Pair → List ℕ → Row
row q t s b = record { q = q; t = t; seed = s; bytes = b }

-- The last pair alone has all below it as its area, and a leaf none. In the last row the pair (1,2) is the nearest above T's node 1, and above
-- no node of Q outside the span: so that node is in no area.
abbrev rows : List Row
rows =
    row A B (pair_of 3 1 ∷ pair_of 5 4 ∷ []) (0 ∷ 2 ∷ 0 ∷ 0 ∷ 4 ∷ 4 ∷ 2 ∷ 3 ∷ [])
    ∷ row A B (pair_of 5 4 ∷ []) (0 ∷ 4 ∷ 0 ∷ 3 ∷ [])
    ∷ row A B (pair_of 4 2 ∷ []) []
    ∷ row C D (pair_of 0 0 ∷ pair_of 1 2 ∷ pair_of 3 4 ∷ []) (2 ∷ 2 ∷ 3 ∷ 3 ∷ [])
    ∷ []

given : map (λ (r : Row). bytes_of (areas r.q r.t r.seed)) rows ≡ map (λ (r : Row). r.bytes) rows
unfolding leaf every above side level fits first_below last_below column box_at begins box_row boxes areas bytes_of
given = refl

-- The first row's areas in an output that has a byte more than they need, and in one that has a byte less.
abbrev room : List ℕ
room = 7 ∷ 7 ∷ 7 ∷ 7 ∷ 7 ∷ 7 ∷ 7 ∷ 7 ∷ 7 ∷ []

abbrev short : List ℕ
short = 7 ∷ 7 ∷ 7 ∷ 7 ∷ 7 ∷ 7 ∷ 7 ∷ []

accepted :
    (listed_of (areas A B (pair_of 3 1 ∷ pair_of 5 4 ∷ [])) room ≡ Ok 2)
    × (output_of (bytes_of (areas A B (pair_of 3 1 ∷ pair_of 5 4 ∷ []))) room ≡ 0 ∷ 2 ∷ 0 ∷ 0 ∷ 4 ∷ 4 ∷ 2 ∷ 3 ∷ 7 ∷ [])
unfolding leaf every above side level fits first_below last_below column box_at begins box_row boxes areas bytes_of listed_of output_of
accepted = (refl, refl)

refused :
    (listed_of (areas A B (pair_of 3 1 ∷ pair_of 5 4 ∷ [])) short ≡ Err (refusal_at OutputShort Nothing))
    × (output_of (bytes_of (areas A B (pair_of 3 1 ∷ pair_of 5 4 ∷ []))) short ≡ short)
unfolding leaf every above side level fits first_below last_below column box_at begins box_row boxes areas bytes_of listed_of output_of
refused = (refl, refl)
