-- The parts of its memory that listing the areas hands on: of trees that were read, of lists that hold a seed, and of arrays of gaps.
use Rattle.std.proofs.Common.{Result}
use mathlib.Core.Path.{◌≡◌, sym, ap, subst, ◌∙◌}
use mathlib.Core.List.Memᴰ
use mathlib.Core.List.{List}
use Prim.Native.Nat.{ℕ, ◌≤◌}
use native.Mathlib.Omega.{arith}
use lib.ListN.{length, get_or, take, length-take}
use lib.Seq.{take_at}
use Rattle.tree.specs.Reading.{IsTree, leaves_of}
use Rattle.tree.specs.declared.Tree.{Tree}
use Rattle.tree.proofs.Trees.{tree_nodes, tree_length, tree_nested}
use Rattle.seed.specs.Tab.{tab}
use Rattle.seed.specs.Area.{Box}
use Rattle.seed.specs.Seed.{◌∈◌, qs, ts, q_of}
use Rattle.area.specs.PaperOrder.{areas_by}
use Rattle.gap.specs.GapNumbers.{gap, filled, gaps_in}
use Rattle.gap.specs.declared.Gaps.{Gaps}
use Rattle.area.specs.inner.Walk.{boxes_by, Walkable, AsMany}
use Rattle.area.specs.Listed.{ListedRight}
use Rattle.seed.specs.Pairs.{pairs_of, Held}
use Rattle.answer.specs.declared.Refusal.{Refusal}
use Rattle.area.specs.declared.Order.{Order}
use Rattle.area.specs.declared.Order.TheVariants.{RisingA, Paper}
use Rattle.seed.proofs.PairLists.{nodes_first}
use Rattle.seed.proofs.Tabs.{length_tab}
use Rattle.seed.proofs.Lists.{at_in}
use Rattle.gap.proofs.GapParts.{leaves_few}
use Rattle.area.proofs.GapLists.{areas_meet}
use Rattle.area.proofs.PaperWalk.{paper_walk}
use Rattle.area.proofs.PaperOrder.{paper_count}

-- An array that is filled with the gaps of a tree's nodes.
module _ (t : Tree) (is : IsTree t) (f : ℕ → ℕ) (all : List ℕ) (e : all ≡ filled f (length (leaves_of t))) where
  filled_take : take t.n all ≡ tab (length (leaves_of t)) f
  filled_take = ap (take t.n) e ∙ take_at (tab (length (leaves_of t)) f) _ t.n (length_tab (length (leaves_of t)) f ∙ tree_length t is)

  filled_length : t.n ≡ length (take t.n all)
  filled_length = sym (ap length filled_take ∙ length_tab (length (leaves_of t)) f ∙ tree_length t is)

-- Two arrays that hold the gaps of a seed's nodes, and the seed's nodes in Q, to be walked.
module _
    (q t : Tree)
    (a b : List ℕ)
    (held : Held q t (pairs_of a b))
    (k : ℕ)
    (e : k ≡ length (pairs_of a b))
    {gaps : Gaps}
    (are : gaps ≡ gaps_in q t (pairs_of a b))
  where
    u : gaps.q ≡ filled (gap (leaves_of q) (qs (pairs_of a b))) (length (leaves_of q))
    u = ap (λ (x : Gaps). x.q) are

    v : gaps.t ≡ filled (gap (leaves_of t) (ts (pairs_of a b))) (length (leaves_of t))
    v = ap (λ (x : Gaps). x.t) are

    nodes_q : qs (pairs_of a b) ≡ take k a
    nodes_q = nodes_first a b ∙ ap (λ (n : ℕ). take n a) (sym e)

    -- The parts of the arrays that have the nodes of the trees.
    pub part_q : q.n ≡ length (take q.n gaps.q)
    part_q = filled_length q held.is_q (gap (leaves_of q) (qs (pairs_of a b))) gaps.q u

    pub part_t : t.n ≡ length (take t.n gaps.t)
    part_t = filled_length t held.is_t (gap (leaves_of t) (ts (pairs_of a b))) gaps.t v

    pub within_q : q.n ≤ length gaps.q
    within_q = omega (arith, part_q, length-take q.n gaps.q)

    pub within_t : t.n ≤ length gaps.t
    within_t = omega (arith, part_t, length-take t.n gaps.t)

    pub held_walkable : Walkable (leaves_of q) (take k a) (take q.n gaps.q) (take t.n gaps.t)
    held_walkable =
        record {
          trees = record {
            tree = tree_nested q held.is_q;
            same = tree_length q held.is_q ∙ part_q;
            few_g = omega (arith, part_q, tree_nodes q held.is_q);
            few_h = omega (arith, part_t, tree_nodes t held.is_t);
          };
          inside = λ i l.
              let w = Memᴰ.of_map q_of (pairs_of a b) (subst (λ (xs : List ℕ). get_or (take k a) i 0 ∈ xs) (sym nodes_q) (at_in (take k a) i l)) in
              omega (arith, w.2, (held.seed.pattern.nodes w.0 w.1).0);
        }

    -- The areas of the seed are the boxes of what stands in both arrays, in either order.
    pub held_areas : (order : Order) → boxes_by order (leaves_of q) (take k a) (take q.n gaps.q) (take t.n gaps.t) ≡ areas_by order (leaves_of q) (leaves_of t) (pairs_of a b)
    unfolding boxes_by areas_by
    held_areas RisingA =
        rw (filled_take q held.is_q (gap (leaves_of q) (qs (pairs_of a b))) gaps.q u, filled_take t held.is_t (gap (leaves_of t) (ts (pairs_of a b))) gaps.t v)
        (sym (areas_meet (tree_nested q held.is_q) (tree_nested t held.is_t) (pairs_of a b) held.seed.pattern (leaves_few q held.is_q)))
    held_areas Paper =
        rw (filled_take q held.is_q (gap (leaves_of q) (qs (pairs_of a b))) gaps.q u, filled_take t held.is_t (gap (leaves_of t) (ts (pairs_of a b))) gaps.t v, ← nodes_q)
        (paper_walk (tree_nested q held.is_q) (tree_nested t held.is_t) (pairs_of a b) held.seed.pattern (leaves_few q held.is_q))

    pub held_as_many : AsMany (leaves_of q) (take k a) (take q.n gaps.q) (take t.n gaps.t)
    unfolding boxes_by areas_by
    held_as_many =
        ap length (held_areas Paper)
        ∙ paper_count (tree_nested q held.is_q) (tree_nested t held.is_t) (pairs_of a b) held.seed.pattern
        ∙ ap length (sym (held_areas RisingA))

-- What is right of the same areas is right.
pub listed_as : (xs ys : List Box) (o : List ℕ) (r : Result ℕ Refusal) (after : List ℕ) → xs ≡ ys → ListedRight xs o r after → ListedRight ys o r after
listed_as xs ys o r after e = subst (λ (zs : List Box). ListedRight zs o r after) e
