-- The kind of a node (document 02, c): an unpaired base, a base pair, or an added root. What kind of bracket a pair is written with plays no part.
use Rattle.std.specs.Prelude.{◌≡◌, ◌↔◌, ℕ, List, map}
use Rattle.tree.specs.Run.{Run}
use Rattle.tree.specs.Node.{Item, Node, items}
use Rattle.tree.specs.Node.Item.{the_dot, the_pair, inside, past_dot, past_pair}
use Rattle.tree.specs.Node.Node.{item, root}

-- The three kinds.
pub data NodeKind : Type 0 where
  unpaired_base : NodeKind
  base_pair : NodeKind
  added_root : NodeKind

-- A dot is an unpaired base, and a bracket pair a base pair.
abbrev pub item_kind : {r : Run} → Item r → NodeKind
item_kind the_dot = unpaired_base
item_kind the_pair = base_pair
item_kind (inside x) = item_kind x
item_kind (past_dot x) = item_kind x
item_kind (past_pair x) = item_kind x

-- The added root is of a kind of its own.
abbrev pub node_kind : {r : Run} → Node r → NodeKind
node_kind (item x) = item_kind x
node_kind root = added_root

-- Nodes of these kinds may map to each other (document 02, c): an unpaired base never maps to a base pair, and an added root only to an added root.
pub record Like (a b : NodeKind) : Type 0 where
  pub never : ¬ ((a ≡ unpaired_base) × (b ≡ base_pair))
  pub nor : ¬ ((a ≡ base_pair) × (b ≡ unpaired_base))
  pub only : (a ≡ added_root) ↔ (b ≡ added_root)

-- A kind by number.
abbrev pub kind_number : NodeKind → ℕ
kind_number unpaired_base = 0
kind_number base_pair = 1
kind_number added_root = 2

-- The kinds of a run's items in postfix order.
abbrev pub item_kinds : Run → List ℕ
item_kinds r = map (λ (x : Item r). kind_number (item_kind x)) (items r)
