-- The walk that lists areas in the paper's order of work, pair by pair and child by child: inner definitions of the code.
use Rattle.std.specs.Prelude.{◌≡◌, cond, ℕ, zero, suc, ◌-◌, ◌≤◌, ◌<◌, length, get_or, eqb, leb}
use mathlib.Core.List.{List, [], ◌++◌, flat_map}
use Rattle.tree.specs.Nested.{leaf, Nested}
use Rattle.seed.specs.Area.{Box}
use Rattle.area.specs.inner.Boxes.{box_from, boxes_below}
use Rattle.area.specs.declared.Order.{Order}
use Rattle.area.specs.declared.Order.TheVariants.{RisingA, Paper}

-- The box that begins at a, where the subtree of child c does: none if c is in the span, where gaps are 0.
unfoldable pub child_box : (g h : List ℕ) → ℕ → ℕ → List Box
child_box g h c a = cond (eqb (get_or g c 0) 0) [] (box_from g h a)

-- Those of the children from e - 1 down of a node whose subtree starts at lo; k is at least e.
unfoldable pub child_boxes : (l g h : List ℕ) → ℕ → ℕ → ℕ → List Box
child_boxes l g h lo zero e = []
child_boxes l g h lo (suc k) e = cond (leb e lo) [] (child_box g h (e - 1) (leaf l (e - 1)) ++ child_boxes l g h lo k (leaf l (e - 1)))

-- Those of all children of node x, and of all children of each node of a list.
unfoldable pub boxes_under : (l g h : List ℕ) → ℕ → List Box
boxes_under l g h x = child_boxes l g h (leaf l x) x x

unfoldable pub boxes_in_order : (l nodes g h : List ℕ) → List Box
boxes_in_order l nodes g h = flat_map (boxes_under l g h) nodes

-- The boxes in an order.
unfoldable pub boxes_by : Order → (l nodes g h : List ℕ) → List Box
boxes_by RisingA l nodes g h = boxes_below g h (length g)
boxes_by Paper l nodes g h = boxes_in_order l nodes g h

-- A tree by its leftmost leaves l, with the gaps g of its nodes and those h of another tree.
pub record Trees (l g h : List ℕ) : Type 0 where
  pub tree : Nested l
  pub same : length l ≡ length g
  pub few_g : length g ≤ 256
  pub few_h : length h ≤ 256

-- The nodes to walk are in the tree.
pub record Walkable (l nodes g h : List ℕ) : Type 0 where
  pub trees : Trees l g h
  pub inside : (k : ℕ) → k < length nodes → get_or nodes k 0 < length l

-- The walk meets as many boxes as there are.
abbrev pub AsMany : (l nodes g h : List ℕ) → Type 0
AsMany l nodes g h = length (boxes_in_order l nodes g h) ≡ length (boxes_below g h (length g))
