-- The nodes of a tree (document 01, "Structures as trees"): their order, their numbers, and who stands above whom.
use Rattle.std.specs.Prelude.{◌≡◌, ◌⊎◌, ℕ, suc, ◌+◌, ◌≤◌, List, [], ◌∷◌, ◌++◌, map}
use Rattle.tree.specs.Run.{Run, size, lefts}
use Rattle.tree.specs.Run.Run.{end, dot, pair}
use Rattle.tree.specs.Nested.{leaf}

-- A dot or a pair of a run: its first item, one inside its first item, or one of the rest.
pub data Item : Run → Type 0 where
  the_dot : {c : ℕ} {r : Run} → Item (dot c r)
  the_pair : {o : ℕ} {i : Run} {c : ℕ} {r : Run} → Item (pair o i c r)
  inside : {o : ℕ} {i : Run} {c : ℕ} {r : Run} → Item i → Item (pair o i c r)
  past_dot : {c : ℕ} {r : Run} → Item r → Item (dot c r)
  past_pair : {o : ℕ} {i : Run} {c : ℕ} {r : Run} → Item r → Item (pair o i c r)

-- A node of the tree of a run: a dot, a pair, or the added root above all top items.
pub data Node (r : Run) : Type 0 where
  item : Item r → Node r
  root : Node r

-- Postfix order: children left to right, then the node.
abbrev pub items : (r : Run) → List (Item r)
items end = []
items (dot c r) = the_dot ∷ map past_dot (items r)
items (pair o i c r) = map inside (items i) ++ the_pair ∷ map past_pair (items r)

abbrev pub nodes : (r : Run) → List (Node r)
nodes r = map item (items r) ++ root ∷ []

-- The number of a node: how many nodes come before it in postfix order.
abbrev pub item_number : {r : Run} → Item r → ℕ
item_number the_dot = 0
item_number (the_pair {i = i}) = size i
item_number (inside x) = item_number x
item_number (past_dot x) = suc (item_number x)
item_number (past_pair {i = i} x) = size i + suc (item_number x)

abbrev pub number : {r : Run} → Node r → ℕ
number (item x) = item_number x
number {r} root = size r

-- A pair is a proper ancestor of every item inside it, and the added root of every item.
pub data Over : (r : Run) → Item r → Item r → Type 0 where
  of_inside : {o : ℕ} {i : Run} {c : ℕ} {r : Run} (x : Item i) → Over (pair o i c r) the_pair (inside x)
  in_pair : {o : ℕ} {i : Run} {c : ℕ} {r : Run} {x y : Item i} → Over i x y → Over (pair o i c r) (inside x) (inside y)
  after_dot : {c : ℕ} {r : Run} {x y : Item r} → Over r x y → Over (dot c r) (past_dot x) (past_dot y)
  after_pair : {o : ℕ} {i : Run} {c : ℕ} {r : Run} {x y : Item r} → Over r x y → Over (pair o i c r) (past_pair x) (past_pair y)

pub data Ancestor {r : Run} : Node r → Node r → Type 0 where
  of_items : {x y : Item r} → Over r x y → Ancestor (item x) (item y)
  of_root : (x : Item r) → Ancestor root (item x)

-- The subtree of a node: itself and all of which it is a proper ancestor.
abbrev pub InSubtree : {r : Run} → Node r → Node r → Type 0
InSubtree x y = (x ≡ y) ⊎ Ancestor x y

-- The leftmost leaf of a node, as the smallest number of its subtree.
pub record Smallest {r : Run} (x : Node r) : Type 0 where
  pub node : Node r
  pub inside : InSubtree x node
  pub is : number node ≡ leaf (lefts r) (number x)
  pub least : (y : Node r) → InSubtree x y → leaf (lefts r) (number x) ≤ number y
