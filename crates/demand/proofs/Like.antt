-- Every seed that a session has, present or withdrawn, maps like to like, said of the nodes of the runs that its texts spell.
use mathlib.Core.Path.{◌≡◌, sym, ap, subst, subst₂}
use mathlib.Core.List.{List}
use Prim.Native.Nat.{ℕ, ◌≤◌}
use lib.ListN.{length}
use Rattle.tree.specs.Run.{Run}
use Rattle.tree.specs.Reading.{tree_of}
use Rattle.tree.specs.declared.Tree.{Tree}
use Rattle.seed.specs.Seed.{LikeToLike, LikeNodes}
use Rattle.seed.proofs.Like.{nodes_like}
use Rattle.table.specs.Rows.{Row, row_of}
use Rattle.chain.specs.State.{State}
use Rattle.chain.specs.View.{view}
use Rattle.chain.specs.Opening.{Outcome, start_with}
use Rattle.chain.specs.declared.Session.{Session}
use Rattle.chain.proofs.Looks.{row_seed}
use Rattle.demand.specs.History.{Event, state_of}
use Rattle.demand.specs.Reached.{Reached}
use Rattle.demand.specs.Grounds.{GivenOut}
use Rattle.demand.specs.Demands.{OpenedOn, table_by}
use Rattle.demand.proofs.Histories.{reached_sound}
use Rattle.demand.proofs.Openings.{opened_few, reached_state, reached_trees}

module _ {o : Outcome} {r p : Run} {rows : List Row} (on : OpenedOn o r p rows) {s : Session} {h : List Event} (w : Reached o s h) where
  same_rows : (view s).rows ≡ table_by r p rows h
  same_rows = ap (λ (x : State). x.rows) (reached_state on w)

  -- An unpaired base of Q never maps to a base pair of T, nor a base pair to an unpaired base, and an added root only to an added root.
  pub like_by_history : (k : ℕ) → GivenOut (state_of (start_with (tree_of r) (tree_of p) rows) h) k → LikeNodes r p (row_of (table_by r p rows h) k).pairs
  like_by_history k given =
      let out = subst (λ (xs : List Row). (1 ≤ k) × (k ≤ length xs)) (sym same_rows) given in
      let seed = row_seed s k (reached_sound w) (record { low = out.0; high = out.1 }) in
      let trees = reached_trees on w in
      let few = opened_few on in
      let like = subst₂ (λ (q t : Tree). LikeToLike q t (row_of (view s).rows k).pairs) trees.0 trees.1 seed.like in
      nodes_like r p few.0 few.1 (row_of (table_by r p rows h) k).pairs (subst (λ (xs : List Row). LikeToLike (tree_of r) (tree_of p) (row_of xs k).pairs) same_rows like)
