-- What the judge's own functions ask of each other: rising lists of nodes, the rows of those below each, and the highest span nodes passed.
use Rattle.std.specs.Prelude.{◌≡◌, Bool, true, false, List, ℕ, ◌+◌, ◌-◌, ◌≤◌, ◌<◌, length, get_or, Option, Some, None}
use Rattle.tree.specs.Nested.{leaf, In, Nested}
use Rattle.seed.specs.Seed.{last_node}
use Rattle.seed.specs.Tests.{nodes_in, rises, rooted, spans, children, paired, bordered}
use Rattle.seed.specs.Pairs.{pairs_of}

-- The first n of a list rise.
abbrev pub Ups : ℕ → List ℕ → Type 0
Ups n xs = (j k : ℕ) → j < k → k < n → get_or xs j 0 < get_or xs k 0

-- Of the first n of a list the first f lie before v, and no other.
pub record Cut (n : ℕ) (xs : List ℕ) (v f : ℕ) : Type 0 where
  pub within : f ≤ n
  pub before : (j : ℕ) → j < f → get_or xs j 0 < v
  pub after : (j : ℕ) → f ≤ j → j < n → v ≤ get_or xs j 0

-- Two lists of nodes, of one length, that passed the grounds 15 and 16.
pub record Risen (Q T a b : List ℕ) : Type 0 where
  pub tree_q : Nested Q
  pub tree_t : Nested T
  pub same : length a ≡ length b
  pub nodes : nodes_in Q T (pairs_of a b) ≡ true
  pub rise_q : rises a ≡ true
  pub rise_t : rises b ≡ true

-- Two such lists that passed the grounds 17 and 18 too.
pub record BothUnderLast (Q T a b : List ℕ) : Type 0 where
  pub risen : Risen Q T a b
  pub root : rooted Q T (pairs_of a b) ≡ true

-- For each place before k, where the row of the listed nodes below the node there begins.
pub record Rows (l xs rows : List ℕ) (k : ℕ) : Type 0 where
  pub tree : Nested l
  pub ups : Ups (length xs) xs
  pub room : length xs ≤ length rows
  pub begins : (j : ℕ) → j < k → Cut (length xs) xs (leaf l (get_or xs j 0)) (get_or rows j 0)

-- A list of nodes of a tree that rises and lies in the subtree of its last node.
pub record UnderLast (l xs : List ℕ) : Type 0 where
  pub tree : Nested l
  pub ups : Ups (length xs) xs
  pub nodes : (j : ℕ) → j < length xs → get_or xs j 0 < length l
  pub low : (j : ℕ) → j < length xs → leaf l (last_node xs) ≤ get_or xs j 0

-- The highest of the nodes before x of which f is true: their subtrees lie apart, and hold all those nodes.
pub record Tops (f : ℕ → Bool) (l tops : List ℕ) (count x : ℕ) : Type 0 where
  pub few : count ≤ x
  pub before : (p : ℕ) → p < count → get_or tops p 0 < x
  pub apart : (j k : ℕ) → j < k → k < count → get_or tops j 0 < leaf l (get_or tops k 0)
  pub each : (p : ℕ) → p < count → f (get_or tops p 0) ≡ true
  pub all : (z : ℕ) → z < x → f z ≡ true → (p : ℕ) × (p < count) × In l (get_or tops p 0) z

-- The children of node x, whose last child is the last top: all of them tops, with so many tops before them, or one of them none.
pub data Joined (f : ℕ → Bool) (l tops : List ℕ) (count x : ℕ) : Option ℕ → Type 0 where
  whole : {left : ℕ} → left < count → Cut count tops (leaf l x) left → children f l (leaf l x) x x ≡ true → Joined f l tops count x (Some left)
  broken : children f l (leaf l x) x x ≡ false → Joined f l tops count x None

-- So it is for any f of which these are the tops, if node x is no leaf.
abbrev pub Joins : List ℕ → List ℕ → ℕ → ℕ → Option ℕ → Type 0
Joins l tops count x left = (f : ℕ → Bool) → Nested l → Tops f l tops count x → get_or tops (count - 1) 0 + 1 ≡ x → leaf l x < x → Joined f l tops count x left

-- Whether the subtree of a node from a up to b starts at node x or before it.
pub record Reaching (l : List ℕ) (a b x : ℕ) (r : Bool) : Type 0 where
  pub some : r ≡ true → (y : ℕ) × (a ≤ y) × (y < b) × (leaf l y ≤ x)
  pub none : r ≡ false → (y : ℕ) → a ≤ y → y < b → x < leaf l y

-- The nodes before x are passed: the tops of the span among them, and none of them is an unpaired border node.
pub record Past (l xs tops : List ℕ) (count x : ℕ) : Type 0 where
  pub room : length tops ≡ 256
  pub highest : Tops (spans l xs) l tops count x
  pub fine : (z : ℕ) → z < x → paired l xs z ≡ true

-- The nodes before the listed one at a place are passed; then that node too, which is the last top.
pub record Passing (l xs : List ℕ) (place : ℕ) (tops : List ℕ) (count : ℕ) : Type 0 where
  pub listed : UnderLast l xs
  pub more : place + 1 < length xs
  pub past : Past l xs tops count (get_or xs place 0)

pub record Climbing (l xs : List ℕ) (place : ℕ) (tops : List ℕ) (count : ℕ) : Type 0 where
  pub listed : UnderLast l xs
  pub more : place + 1 < length xs
  pub some : 0 < count
  pub top : get_or tops (count - 1) 0 ≡ get_or xs place 0
  pub past : Past l xs tops count (get_or xs place 0 + 1)

-- The nodes before the next listed one are passed, with so many tops among them, or one of them is an unpaired border node.
pub data Passed (l xs : List ℕ) (place : ℕ) (tops : List ℕ) : Option ℕ → Type 0 where
  fine : {count : ℕ} → Past l xs tops count (get_or xs (place + 1) 0) → Passed l xs place tops (Some count)
  bare : bordered l xs ≡ false → Passed l xs place tops None
