-- The kinds of nodes that a tree tells are those of its run's nodes, and like kinds are equal ones.
use mathlib.Core.Path.{◌≡◌, refl, sym, ap, subst, ◌∙◌}
use mathlib.Core.Logic.{◌↔◌}
use Prim.Native.Nat.{ℕ, ◌+◌, ◌-◌, ◌≤◌, ◌<◌}
use native.Mathlib.Omega.{arith}
use lib.ListN.{length, get_or, replicate, length-append, length-replicate}
use lib.Seq.{get_or-set_same, get_or-set_other}
use Rattle.tree.specs.Run.{Run, size}
use Rattle.tree.specs.Node.{Item, Node, item_number, number}
use Rattle.tree.specs.Node.Node.{item, root}
use Rattle.tree.specs.NodeKind.{NodeKind, item_kind, node_kind, Like, kind_number, item_kinds}
use Rattle.tree.specs.NodeKind.NodeKind.{unpaired_base, base_pair, added_root}
use Rattle.tree.specs.Reading.{tree_of, node_kinds_of, node_kind_at}
use Rattle.tree.proofs.NodeKinds.{length_kinds}
use Rattle.tree.proofs.Nodes.{item_below, item_stands, mapped_item}

-- What the tree of a run tells of the number of a node is the kind of that node.
pub kind_stands : (r : Run) → size r ≤ 255 → (x : Node r) → node_kind_at (tree_of r) (number x) ≡ kind_number (node_kind x)
kind_stands r few (item x) =
    let under : item_number x ≡ size r + 1 - 1 → ⊥ = λ e. omega (arith, item_below x) in
    get_or-set_other (tree_of r).kinds (size r + 1 - 1) (item_number x) 2 0 under
    ∙ mapped_item (λ (y : Item r). kind_number (item_kind y)) (replicate (256 - size r) 0) 0 x (item_stands x)
kind_stands r few root =
    let last : size r + 1 - 1 ≡ size r = omega arith in
    let room : size r + 1 - 1 < length (tree_of r).kinds = omega (arith, length-append (item_kinds r) (replicate (256 - size r) 0), length_kinds r, length-replicate {A = ℕ} (256 - size r) 0) in
    ap (λ (k : ℕ). get_or (node_kinds_of (tree_of r)) k 0) (sym last) ∙ get_or-set_same (tree_of r).kinds (size r + 1 - 1) 2 0 room

-- The numbers of the kinds tell them apart.
pub kind_injective : (a b : NodeKind) → kind_number a ≡ kind_number b → a ≡ b
kind_injective unpaired_base unpaired_base e = refl
kind_injective unpaired_base base_pair e = absurd (omega arith)
kind_injective unpaired_base added_root e = absurd (omega arith)
kind_injective base_pair unpaired_base e = absurd (omega arith)
kind_injective base_pair base_pair e = refl
kind_injective base_pair added_root e = absurd (omega arith)
kind_injective added_root unpaired_base e = absurd (omega arith)
kind_injective added_root base_pair e = absurd (omega arith)
kind_injective added_root added_root e = refl

differ : (a b : NodeKind) → (kind_number a ≡ kind_number b → ⊥) → a ≡ b → ⊥
differ a b ne e = ne (ap kind_number e)

same_like : (a : NodeKind) → Like a a
same_like a = record {
  never = λ w. differ unpaired_base base_pair (λ e. omega arith) (sym w.0 ∙ w.1);
  nor = λ w. differ base_pair unpaired_base (λ e. omega arith) (sym w.0 ∙ w.1);
  only = (λ e. e, λ e. e);
}

like_same : (a b : NodeKind) → Like a b → a ≡ b
like_same unpaired_base unpaired_base w = refl
like_same unpaired_base base_pair w = absurd (w.never (refl, refl))
like_same unpaired_base added_root w = w.only.1 refl
like_same base_pair unpaired_base w = absurd (w.nor (refl, refl))
like_same base_pair base_pair w = refl
like_same base_pair added_root w = w.only.1 refl
like_same added_root b w = sym (w.only.0 refl)

-- Document 02's words leave just the pairs of one kind.
pub like_kinds : (a b : NodeKind) → (a ≡ b) ↔ Like a b
like_kinds a b = (λ e. subst (λ (c : NodeKind). Like a c) e (same_like a), like_same a b)
