-- Two texts read, Q before T, by grounds 1 to 4 and 24.
use Rattle.std.specs.Prelude.{List, ℕ}
use Rattle.answer.specs.declared.Place.TheVariants.{ByteInQ, ByteInT, Seed, Nothing}
use Rattle.answer.specs.Answer.{Answer, Accepted, Refused}
use Rattle.tree.specs.Reading.{Reading, reading, tree_of, single}
use Rattle.tree.specs.Reading.Reading.{text_accepted, text_refused}
use Rattle.tree.specs.declared.Tree.{Tree}
use Rattle.dealing.specs.declared.texts.TwoTrees.{TwoTrees}

-- What is answered of two texts, and their trees.
pub record BothRead : Type 0 where
  pub answer : Answer
  pub q : Tree
  pub t : Tree

-- Beside a refusal stand the trees of the texts `.` and `.`.
abbrev pub neither : Answer → BothRead
neither a = record { answer = a; q = tree_of single; t = tree_of single }

-- Q is judged before T.
abbrev pub both_of : Reading → Reading → BothRead
both_of (text_refused g k) y = neither (Refused g (ByteInQ k))
both_of (text_accepted r) (text_refused g k) = neither (Refused g (ByteInT k))
both_of (text_accepted r) (text_accepted p) = record { answer = Accepted; q = tree_of r; t = tree_of p }

unfoldable pub both_read : List ℕ → List ℕ → BothRead
both_read q t = both_of (reading q) (reading t)

-- For inner functions: the answer of a reading, whose text is T.
abbrev pub in_t : Answer → Answer
in_t Accepted = Accepted
in_t (Refused g (ByteInQ k)) = Refused g (ByteInT k)
in_t (Refused g (ByteInT k)) = Refused g (ByteInT k)
in_t (Refused g (Seed n)) = Refused g (Seed n)
in_t (Refused g Nothing) = Refused g Nothing

-- Their trees alone.
abbrev pub trees_of : BothRead → TwoTrees
trees_of r = record { q = r.q; t = r.t }
