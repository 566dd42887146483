-- Like maps to like, said of the nodes of two runs in document 02's words (c).
use mathlib.Core.Path.{◌≡◌, sym, ap, subst, ◌∙◌}
use mathlib.Core.Logic.{◌↔◌}
use mathlib.Core.List.{List}
use Prim.Native.Nat.{◌≤◌}
use native.Mathlib.Omega.{arith}
use Rattle.tree.specs.Run.{Run, size, lefts}
use Rattle.tree.specs.Node.{number}
use Rattle.tree.specs.NodeKind.{node_kind, kind_number}
use Rattle.tree.specs.Reading.{tree_of, node_kind_at}
use Rattle.tree.proofs.Leaves.{length_all}
use Rattle.tree.proofs.Nodes.{node_at}
use Rattle.tree.proofs.Like.{kind_stands, kind_injective, like_kinds}
use Rattle.seed.specs.Seed.{◌∈◌, Nodes, LikeToLike, LikeNodes}
use Rattle.seed.specs.Pairs.{pair_of}
use Rattle.seed.specs.declared.Pair.{Pair}
use Rattle.seed.proofs.SeedTest.{pair_eq}

module _ (r p : Run) (few-r : size r ≤ 255) (few-p : size p ≤ 255) (s : List Pair) where
  pub nodes_like : LikeToLike (tree_of r) (tree_of p) s → LikeNodes r p s
  nodes_like h x y m = (like_kinds (node_kind x) (node_kind y)).0 (kind_injective (node_kind x) (node_kind y) (sym (kind_stands r few-r x) ∙ h (pair_of (number x) (number y)) m ∙ kind_stands p few-p y))

  by_nodes : Nodes (lefts r) (lefts p) s → LikeNodes r p s → LikeToLike (tree_of r) (tree_of p) s
  by_nodes inside h z m =
      let here = inside z m in
      let x = node_at r z.q (omega (arith, here.0, length_all r)) in
      let y = node_at p z.t (omega (arith, here.1, length_all p)) in
      let is : z ≡ pair_of (number x.0) (number y.0) = pair_eq _ _ (sym x.1) (sym y.1) in
      let like = (like_kinds (node_kind x.0) (node_kind y.0)).1 (h x.0 y.0 (subst (λ (w : Pair). w ∈ s) is m)) in
      ap (node_kind_at (tree_of r)) (sym x.1) ∙ kind_stands r few-r x.0 ∙ ap kind_number like ∙ sym (kind_stands p few-p y.0) ∙ ap (node_kind_at (tree_of p)) y.1

  -- Of a list of pairs of nodes, like maps to like exactly if no unpaired base maps to a base pair and an added root only to an added root.
  pub like_nodes : Nodes (lefts r) (lefts p) s → LikeToLike (tree_of r) (tree_of p) s ↔ LikeNodes r p s
  like_nodes inside = (nodes_like, by_nodes inside)
