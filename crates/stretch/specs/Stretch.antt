-- Stretches (document 01, "Open areas"): runs of nodes that are whole subtrees of neighbouring siblings, and the bytes that spell one.
use Rattle.std.specs.Prelude.{◌≡◌, cond, ℕ, zero, suc, ◌+◌, ◌-◌, ◌≤◌, List, [], length, eqb, ltb, leb}
use Rattle.std.specs.Borrow.{Bor}
use Rattle.answer.specs.declared.Ground.TheVariants.{OutsideTree}
use Rattle.answer.specs.declared.Place.TheVariants.{Nothing}
use Rattle.answer.specs.Answer.{Answer, Accepted, Refused}
use Rattle.tree.specs.Run.{Run, spell, size, join}
use Rattle.tree.specs.Run.Run.{end, dot, pair}
use Rattle.tree.specs.Reading.{Reading, reading, text_answer}
use Rattle.tree.specs.Reading.Reading.{text_accepted, text_refused}

-- The items of y are neighbours in the run r, or in the run inside a pair of it. Their first node is a, counted from r's first node, and
-- k bytes of r's text stand before them.
pub data Siblings (y : Run) : Run → ℕ → ℕ → Type 0 where
  here : {r : Run} (z : Run) → r ≡ join y z → Siblings y r 0 0
  behind_dot : {c : ℕ} {r : Run} {a k : ℕ} → Siblings y r a k → Siblings y (dot c r) (suc a) (suc k)
  into : {o : ℕ} {i : Run} {c : ℕ} {r : Run} {a k : ℕ} → Siblings y i a k → Siblings y (pair o i c r) a (suc k)
  behind_pair : {o : ℕ} {i : Run} {c : ℕ} {r : Run} {a k : ℕ} → Siblings y r a k → Siblings y (pair o i c r) (size i + suc a) (suc (length (spell i) + suc k))

-- The nodes a to b of the tree of r are a stretch: a is at most b, and they are the nodes of the items of y, with k bytes before them. The
-- added root is no item, so that it is in no stretch.
pub record Stretch (r : Run) (a b : ℕ) (k : ℕ) (y : Run) : Type 0 where
  pub order : a ≤ b
  pub siblings : Siblings y r a k
  pub count : size y ≡ b - a + 1

-- The nodes a to b of the tree of r are a stretch, whatever its items and the bytes before them.
abbrev pub SomeStretch : Run → ℕ → ℕ → Type 0
SomeStretch r a b = (k : ℕ) × (y : Run) × Stretch r a b k y

-- The same as a search: how many bytes stand before the items, and the items; or that the nodes are no stretch.
pub data Found : Type 0 where
  at : ℕ → Run → Found
  nowhere : Found

-- The same items, with k bytes more before them.
abbrev pub past : ℕ → Found → Found
past k (at j y) = at (k + j) y
past k nowhere = nowhere

-- The same bytes before, and one item more in front of the items.
abbrev pub with_dot : ℕ → Found → Found
with_dot c (at k y) = at k (dot c y)
with_dot c nowhere = nowhere

abbrev pub with_pair : ℕ → Run → ℕ → Found → Found
with_pair o i c (at k y) = at k (pair o i c y)
with_pair o i c nowhere = nowhere

-- The items that a run begins with and that have n nodes.
abbrev pub leading : Run → ℕ → Found
leading end n = cond (eqb n 0) (at 0 end) nowhere
leading (dot c r) n = cond (eqb n 0) (at 0 end) (with_dot c (leading r (n - 1)))
leading (pair o i c r) n =
    cond (eqb n 0) (at 0 end)
    (cond (leb n (size i)) nowhere (with_pair o i c (leading r (n - suc (size i)))))

-- The n nodes from a on: inside a pair, from the run's beginning, or behind its first item.
abbrev pub nodes_from : Run → ℕ → ℕ → Found
nodes_from end a n = nowhere
nodes_from (dot c r) zero n = leading (dot c r) n
nodes_from (dot c r) (suc a) n = past 1 (nodes_from r a n)
nodes_from (pair o i c r) a n =
    cond (leb (a + n) (size i)) (past 1 (nodes_from i a n))
    (cond (eqb a 0) (leading (pair o i c r) n)
    (cond (ltb (size i) a) (past (length (spell i) + 2) (nodes_from r (a - suc (size i)) n)) nowhere))

unfoldable pub stretch_in : Run → ℕ → ℕ → Found
stretch_in r a b = cond (leb a b) (nodes_from r a (b - a + 1)) nowhere

-- What is answered of a run of nodes, and the bytes that spell it: none where it is refused.
pub record Located : Type 0 where
  pub answer : Answer
  pub from : ℕ
  pub to : ℕ

-- What is answered of nodes that are looked for, and the bytes that spell them: none where they are no stretch.
abbrev pub located_by : Found → Located
located_by (at k y) = record { answer = Accepted; from = k; to = k + length (spell y) }
located_by nowhere = record { answer = Refused OutsideTree Nothing; from = 0; to = 0 }

abbrev pub located : Reading → ℕ → ℕ → Located
located (text_accepted r) a b = located_by (stretch_in r a b)
located (text_refused g k) a b = record { answer = text_answer (text_refused g k); from = 0; to = 0 }

abbrev pub located_in : List ℕ → ℕ → ℕ → Located
located_in s a b = located (reading s) a b

-- What the check answers: grounds 1 to 4 and 24 of the text, then 15.
unfoldable pub check_of : List ℕ → ℕ → ℕ → Answer
check_of s a b = (located_in s a b).answer

-- The part that is handed back: what spells the stretch, or nothing.
abbrev pub spelled : Found → List ℕ
spelled (at k y) = spell y
spelled nowhere = []

abbrev pub part : Reading → ℕ → ℕ → List ℕ
part (text_accepted r) a b = spelled (stretch_in r a b)
part (text_refused g k) a b = []

unfoldable pub part_of : List ℕ → ℕ → ℕ → List ℕ
part_of s a b = part (reading s) a b

-- The part is one of the caller's own text: it spells the stretch, and lies in the memory of that text, behind the bytes that stand before the
-- stretch. If refused it is the empty part at the text's start.
pub record HandsBack (text : Bor (List ℕ)) (a b : ℕ) (r : Bor (List ℕ)) : Type 0 where
  pub spells : r.now ≡ part_of text.now a b
  pub own : r.ref_ptr.0 ≡ text.ref_ptr.0
  pub lies : r.ref_ptr.1 ≡ text.ref_ptr.1 + (located_in text.now a b).from
