-- What a caller knows of a tree that a reading handed over.
use mathlib.Core.Path.{◌≡◌, refl, sym, ap, subst, ◌∙◌}
use Prim.Native.Nat.{ℕ, ◌+◌, ◌≤◌}
use native.Mathlib.Omega.{arith}
use mathlib.Core.List.{List, [], ◌∷◌}
use lib.ListN.{length}
use lib.Seq.{take_at}
use Rattle.tree.specs.Run.{Run, spell, size, lefts}
use Rattle.tree.specs.Run.Run.{end, dot, pair}
use Rattle.tree.specs.Nested.{Nested}
use Rattle.tree.specs.Node.{nodes, number}
use Rattle.tree.specs.Node.Node.{root}
use Rattle.tree.specs.Reading.{Reading, reading, read_of, tree_in, bad_length, tree_of, single, leaves_of, IsTree}
use Rattle.tree.specs.Reading.Reading.{text_accepted, text_refused}
use Rattle.tree.specs.declared.Tree.{Tree}
use Rattle.tree.specs.declared.RefusedText.{RefusedText}
use Rattle.std.specs.Prelude.{Result}
use Rattle.tree.proofs.Lengths.{length_few}
use Rattle.tree.proofs.Leaves.{nested, length_all}
use Rattle.tree.proofs.Splits.{size_spell}
use Rattle.tree.proofs.Grounds.{accepted_spell}

-- The tree of an accepted text has 1 to 256 nodes.
pub accepted_nodes : (s : List ℕ) (r : Run) → reading s ≡ text_accepted r → (1 ≤ (tree_of r).n) × ((tree_of r).n ≤ 256)
accepted_nodes s r e =
    let w = accepted_spell s r e in
    let n = ap length w.0 in
    (omega arith, omega (arith, size_spell r, length_few (length s) w.2))

-- The empty text is accepted: it means the added root alone, one node, numbered 0, which is its own leftmost leaf (document 02, f).
pub root_alone : (reading [] ≡ text_accepted end) × (nodes end ≡ root ∷ []) × ((tree_of end).n ≡ 1) × (number {r = end} root ≡ 0) × (leaves_of (tree_of end) ≡ 0 ∷ [])
unfolding reading bad_length
root_alone = (refl, refl, refl, refl, refl)

-- No other accepted text has one node.
spells_none : (r : Run) → size r ≡ 0 → spell r ≡ []
spells_none end h = refl
spells_none (dot c r) h = absurd (omega arith)
spells_none (pair o i c r) h = absurd (omega arith)

pub one_node : (s : List ℕ) (r : Run) → reading s ≡ text_accepted r → (tree_of r).n ≡ 1 → s ≡ []
one_node s r e h = (accepted_spell s r e).0 ∙ spells_none r (omega arith)

-- The tree of "." is one that is read.
pub single_read : IsTree (tree_of single)
single_read = record { run = single; few = omega arith; is = refl }

-- Reading hands over a tree whatever it answers.
pub read_tree : (s : List ℕ) (x : Result Tree RefusedText) → x ≡ read_of (reading s) → IsTree (tree_in x)
read_tree s x e = subst (λ (y : Result Tree RefusedText). IsTree (tree_in y)) (sym e) (go (reading s) refl)
  where
    go : (y : Reading) → reading s ≡ y → IsTree (tree_in (read_of y))
    go (text_accepted r) f = record { run = r; few = omega (arith, accepted_nodes s r f); is = refl }
    go (text_refused g k) f = record { run = single; few = omega arith; is = refl }

-- Its nodes are 1 to 256, their leftmost leaves are those of its run and nested, and the added root's is 0.
module _ (t : Tree) (h : IsTree t) where
  pub tree_size : t.n ≡ size h.run + 1
  tree_size = ap (λ (x : Tree). x.n) h.is

  pub tree_nodes : (1 ≤ t.n) × (t.n ≤ 256)
  tree_nodes = (omega (arith, tree_size), omega (arith, tree_size, h.few))

  pub tree_left : leaves_of t ≡ lefts h.run
  tree_left = ap leaves_of h.is ∙ take_at (lefts h.run) _ (size h.run + 1) (length_all h.run)

  pub tree_length : length (leaves_of t) ≡ t.n
  tree_length = ap length tree_left ∙ length_all h.run ∙ sym tree_size

  pub tree_nested : Nested (leaves_of t)
  tree_nested = subst Nested (sym tree_left) (nested h.run)
