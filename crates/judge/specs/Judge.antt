-- What is answered of a list of pairs that is to be a seed (document 01, grounds 15 to 19; document 02, c, ground 25), computed.
use Rattle.std.specs.Prelude.{not, ◌&&◌, List, ℕ}
use Rattle.answer.specs.Answer.{given, Answer, Accepted}
use Rattle.answer.specs.declared.Ground.TheVariants.{OutsideTree, UnlikeNodes, NotRising, AncestryDiffers, LastNotAncestor, BorderUnpaired}
use Rattle.answer.specs.declared.Place.TheVariants.{Seed}
use Rattle.tree.specs.Reading.{leaves_of, node_kinds_of}
use Rattle.tree.specs.declared.Tree.{Tree}
use Rattle.seed.specs.Seed.{qs, ts}
use Rattle.seed.specs.Tests.{nodes_in, same_kinds, rises, alike, rooted, bordered}
use Rattle.seed.specs.declared.Pair.{Pair}

-- Grounds 16 to 19 of a list that is to be seed number n, on trees with the leftmost leaves Q and T.
unfoldable pub pattern_answer : List ℕ → List ℕ → List Pair → ℕ → Answer
pattern_answer Q T s n =
    given (not (rises (qs s) && rises (ts s))) NotRising (Seed n)
    (given (not (alike Q T s)) AncestryDiffers (Seed n)
    (given (not (rooted Q T s)) LastNotAncestor (Seed n)
    (given (not (bordered Q (qs s) && bordered T (ts s))) BorderUnpaired (Seed n)
    Accepted)))

-- Grounds 15 and 25 before them, with the kinds K and L of the nodes.
unfoldable pub judge_on : (Q T K L : List ℕ) → List Pair → ℕ → Answer
judge_on Q T K L s n =
    given (not (nodes_in Q T s)) OutsideTree (Seed n)
    (given (not (same_kinds K L s)) UnlikeNodes (Seed n)
    (pattern_answer Q T s n))

-- What is answered on two trees: the first of the grounds 15, 25 and 16 to 19 that holds.
abbrev pub judge_of : Tree → Tree → List Pair → ℕ → Answer
judge_of q t s n = judge_on (leaves_of q) (leaves_of t) (node_kinds_of q) (node_kinds_of t) s n
