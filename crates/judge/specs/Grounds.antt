-- Grounds 15 to 19 (document 01) and 25 (document 02, c) for a list of pairs that is to be seed number n, and what an answer must say by them.
use Rattle.std.specs.Prelude.{List, ℕ}
use Rattle.answer.specs.Answer.{Said}
use Rattle.answer.specs.Grounds.{GivenIf, ◌then◌}
use Rattle.answer.specs.declared.Place.TheVariants.{Seed}
use Rattle.tree.specs.Reading.{leaves_of}
use Rattle.tree.specs.declared.Tree.{Tree}
use Rattle.seed.specs.Seed.{qs, ts, Nodes, LikeToLike, Rising, Alike, Rooted, Bordered}
use Rattle.seed.specs.declared.Pair.{Pair}

-- The q and the t rise strictly.
abbrev pub BothRise : List Pair → Type 0
BothRise s = Rising (qs s) × Rising (ts s)

-- Every border node of both spans is in a pair.
abbrev pub BothBordered : List ℕ → List ℕ → List Pair → Type 0
BothBordered Q T s = Bordered Q (qs s) × Bordered T (ts s)

-- What is said of the list: a node number is not in its tree; a pair is of unlike nodes; the q or the t are not strictly rising; ancestry differs
-- between two pairs; the last pair is not an ancestor of all others; a border node is unpaired.
abbrev pub PairsSay : Tree → Tree → List Pair → ℕ → Said → Type 0
PairsSay q t s n =
    GivenIf (¬ Nodes (leaves_of q) (leaves_of t) s) 15 (Seed n)
    then GivenIf (¬ LikeToLike q t s) 25 (Seed n)
    then GivenIf (¬ BothRise s) 16 (Seed n)
    then GivenIf (¬ Alike (leaves_of q) (leaves_of t) s) 17 (Seed n)
    then GivenIf (¬ Rooted (leaves_of q) (leaves_of t) s) 18 (Seed n)
    then GivenIf (¬ BothBordered (leaves_of q) (leaves_of t) s) 19 (Seed n)
