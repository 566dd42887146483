-- Structures (document 01, "Structures as trees"): runs of items, the text that spells one, and the leftmost leaves.
use Rattle.std.specs.Prelude.{ℕ, suc, ◌+◌, List, [], ◌∷◌, ◌++◌}

-- A run of items: the end, a dot and the rest of the run, or a bracket pair around a run and the rest. A dot is any unpaired character, and a bracket
-- one of any kind (document 02, b). Each item keeps its own bytes.
pub data Run : Type 0 where
  end : Run
  dot : ℕ → Run → Run
  pair : ℕ → Run → ℕ → Run → Run

-- The bytes that spell a run.
abbrev pub spell : Run → List ℕ
spell end = []
spell (dot c r) = c ∷ spell r
spell (pair o i c r) = o ∷ (spell i ++ c ∷ spell r)

-- A run in front of another.
abbrev pub join : Run → Run → Run
join end q = q
join (dot c r) q = dot c (join r q)
join (pair o i c r) q = pair o i c (join r q)

-- How many nodes a run has: one for each dot and each pair.
abbrev pub size : Run → ℕ
size end = 0
size (dot c r) = suc (size r)
size (pair o i c r) = size i + suc (size r)

-- The leftmost leaves of a run's nodes in postfix order, its first node numbered b.
abbrev pub lefts_from : ℕ → Run → List ℕ
lefts_from b end = []
lefts_from b (dot c r) = b ∷ lefts_from (suc b) r
lefts_from b (pair o i c r) = lefts_from b i ++ b ∷ lefts_from (b + suc (size i)) r

-- The leftmost leaves of the tree of a run: those of its nodes, and that of the added root, which is 0.
abbrev pub lefts : Run → List ℕ
lefts r = lefts_from 0 r ++ 0 ∷ []
