-- The last pair, which is to be an ancestor of all others, and two lists of nodes as one list of pairs.
use mathlib.Core.Path.{◌≡◌, refl, sym, ap, ◌∙◌}
use mathlib.Core.Bool.{Bool, true, false, ◌&&◌}
use mathlib.Core.Logic.{◌⊎◌, inl, inr}
use mathlib.Core.List.{List, [], ◌∷◌}
use Prim.Native.Nat.{ℕ, ◌-◌, ◌≤◌, ◌<◌}
use native.Mathlib.Omega.{arith}
use lib.Dec.{leb}
use lib.ListN.{length, get_or, take}
use Rattle.tree.specs.Nested.{leaf, Above, Nested}
use Rattle.tree.proofs.Leaves.{lt_or_le}
use Rattle.seed.specs.Seed.{last_pair, qs, ts}
use Rattle.seed.specs.Tests.{every, node_in, nodes_in, rises, root_of, rooted}
use Rattle.seed.specs.Pairs.{pair_of, pairs_of}
use Rattle.seed.specs.declared.Pair.{Pair}
use Rattle.seed.proofs.Trees.{own}
use Rattle.answer.specs.Tells.{Tells}
use Rattle.answer.proofs.Tells.{both_true, tells_not_false, tells_le, tells_lt, tells_eq, tells_as, tells_and, tells_or}
use Rattle.seed.proofs.Sides.{tells_above}
use Rattle.seed.proofs.PairLists.{count_first, last_pair_at, nodes_first, nodes_second, cut_first, cut_second}
use Rattle.judge.proofs.JudgeSteps.{last_node_at}
use Rattle.judge.specs.inner.Steps.{Ups, Risen, BothUnderLast, UnderLast}
use Rattle.judge.proofs.Rising.{ups_most, rises_ups}
use Rattle.judge.proofs.Rows.{tells_one, every_at}

-- The last pair is an ancestor of all others exactly if its subtrees start at the first pair's nodes or before them.
module _ {Q T a b : List ℕ} (p : Risen Q T a b) (some : (length a ≡ 0) → ⊥) where
  abbrev Starts : Type 0
  Starts = (leaf Q (get_or a (length a - 1) 0) ≤ get_or a 0 0) × (leaf T (get_or b (length a - 1) 0) ≤ get_or b 0 0)

  root_tells : (r s : Pair) → Tells (root_of Q T r s) (((s.q ≡ r.q) × (s.t ≡ r.t)) ⊎ (Above Q r.q s.q × Above T r.t s.t))
  unfolding root_of
  root_tells r s =
      tells_or _ _ (tells_and _ _ (tells_eq s.q r.q) (tells_eq s.t r.t))
      (tells_and _ _ (tells_above Q r.q s.q) (tells_above T r.t s.t))

  up_a : Ups (length a) a
  up_a = rises_ups a p.rise_q

  up_b : Ups (length b) b
  up_b = rises_ups b p.rise_t

  abbrev last : Pair
  last = pair_of (get_or a (length a - 1) 0) (get_or b (length a - 1) 0)

  starts_root : Starts → (j : ℕ) → j < length a → root_of Q T last (pair_of (get_or a j 0) (get_or b j 0)) ≡ true
  starts_root s j h = (root_tells _ _).1 place
    where
      place : ((get_or a j 0 ≡ last.q) × (get_or b j 0 ≡ last.t)) ⊎ (Above Q last.q (get_or a j 0) × Above T last.t (get_or b j 0))
      place =
          elim (lt_or_le j (length a - 1)) [
            | inl u ↦
                inr (omega (arith, s, up_a j (length a - 1) u (omega arith), up_b j (length a - 1) u (omega (arith, p.same)), ups_most a up_a 0 j (omega arith) h, ups_most b up_b 0 j (omega arith) (omega (arith, p.same))))
            | inr u ↦ let e : j ≡ length a - 1 = omega arith in inl (ap (λ (i : ℕ). get_or a i 0) e, ap (λ (i : ℕ). get_or b i 0) e)
          ]

  root_starts : root_of Q T last (pair_of (get_or a 0 0) (get_or b 0 0)) ≡ true → Starts
  root_starts e =
      elim ((root_tells _ _).0 e) [
        | inl w ↦ omega (arith, w, own p.tree_q (get_or a (length a - 1) 0), own p.tree_t (get_or b (length a - 1) 0))
        | inr w ↦ omega (arith, w)
      ]

  pub tells_starts : Tells (rooted Q T (pairs_of a b)) Starts
  unfolding rooted
  tells_starts =
      let n : length (pairs_of a b) ≡ length a = count_first a b (omega (arith, p.same)) in
      let e : last_pair (pairs_of a b) ≡ last = rw n at (last_pair_at a b (omega arith)) in
      rw e
      (tells_as (every_at (root_of Q T last) a b)
      (λ all. root_starts (all 0 (omega arith)))
      (λ s j h. starts_root s j (omega arith)))

  -- By the leaves v and w of the last pair's nodes.
  pub rooted_no : (v : ℕ) → v ≡ leaf Q (get_or a (length a - 1) 0) → get_or a 0 0 < v → rooted Q T (pairs_of a b) ≡ false
  rooted_no v e h = tells_not_false _ tells_starts (λ s. omega (arith, s))

  pub rooted-by :
      (v w : ℕ) → v ≡ leaf Q (get_or a (length a - 1) 0) → w ≡ leaf T (get_or b (length a - 1) 0) → v ≤ get_or a 0 0
      → rooted Q T (pairs_of a b) ≡ leb w (get_or b 0 0)
  rooted-by v w e d h = tells_one _ _ tells_starts (tells_as (tells_le w (get_or b 0 0)) (λ g. omega arith) (λ s. omega (arith, s)))

pub rooted_none : (Q T a b : List ℕ) → length a ≡ 0 → rooted Q T (pairs_of a b) ≡ true
unfolding rooted every pairs_of
rooted_none Q T [] b h = refl
rooted_none Q T (x ∷ a) b h = absurd (omega arith)

-- Both lists of nodes lie in the subtrees of their last.
module _ {Q T a b : List ℕ} (p : BothUnderLast Q T a b) where
  starts : (j : ℕ) → j < length a → (leaf Q (get_or a (length a - 1) 0) ≤ get_or a 0 0) × (leaf T (get_or b (length a - 1) 0) ≤ get_or b 0 0)
  starts j h = (tells_starts p.risen (λ e. omega arith)).0 p.root

  node_at : (j : ℕ) → j < length a → (get_or a j 0 < length Q) × (get_or b j 0 < length T)
  unfolding nodes_in node_in
  node_at j h =
      let n : length (pairs_of a b) ≡ length a = count_first a b (omega (arith, p.risen.same)) in
      (tells_and _ _ (tells_lt (get_or a j 0) (length Q)) (tells_lt (get_or b j 0) (length T))).0
      ((every_at (node_in (length Q) (length T)) a b).0 p.risen.nodes j (omega arith))

  pub listed_q : UnderLast Q a
  listed_q =
      let up = rises_ups a p.risen.rise_q in
      record {
        tree = p.risen.tree_q;
        ups = up;
        nodes = λ j h. (node_at j h).0;
        low = λ j h. rw (last_node_at a) (omega (arith, starts j h, ups_most a up 0 j (omega arith) h));
      }

  pub listed_t : UnderLast T b
  listed_t =
      let up = rises_ups b p.risen.rise_t in
      let same = p.risen.same in
      record {
        tree = p.risen.tree_t;
        ups = up;
        nodes = λ j h. (node_at j (omega arith)).1;
        low = λ j h. rw (last_node_at b, ← same) (omega (arith, starts j (omega arith), ups_most b up 0 j (omega arith) h));
      }

-- Two lists of one length, and two lists cut to one length, as a list of pairs.
nodes_q : (a b : List ℕ) → length a ≡ length b → qs (pairs_of a b) ≡ a
unfolding pairs_of
nodes_q [] b h = refl
nodes_q (x ∷ a) [] h = absurd (omega arith)
nodes_q (x ∷ a) (y ∷ b) h = ap (λ (r : List ℕ). x ∷ r) (nodes_q a b (omega arith))

nodes_t : (a b : List ℕ) → length a ≡ length b → ts (pairs_of a b) ≡ b
unfolding pairs_of
nodes_t [] [] h = refl
nodes_t [] (y ∷ b) h = absurd (omega arith)
nodes_t (x ∷ a) [] h = absurd (omega arith)
nodes_t (x ∷ a) (y ∷ b) h = ap (λ (r : List ℕ). y ∷ r) (nodes_t a b (omega arith))

module _ (a b : List ℕ) (same : length a ≡ length b) (f g : List ℕ → Bool) where
  pub whole_no : f a ≡ false → (f (qs (pairs_of a b)) && g (ts (pairs_of a b))) ≡ false
  whole_no e = rw (nodes_q a b same, e)

  pub whole_by : f a ≡ true → (f (qs (pairs_of a b)) && g (ts (pairs_of a b))) ≡ g b
  whole_by e = rw (nodes_q a b same, nodes_t a b same, e)

cut_pairs : (a b : List ℕ) → pairs_of (take (length (pairs_of a b)) a) (take (length (pairs_of a b)) b) ≡ pairs_of a b
unfolding pairs_of
cut_pairs [] b = refl
cut_pairs (x ∷ a) [] = refl
cut_pairs (x ∷ a) (y ∷ b) = ap (λ (r : List Pair). pair_of x y ∷ r) (cut_pairs a b)

module _ (a b : List ℕ) {n : ℕ} (e : n ≡ length (pairs_of a b)) where
  pub pairs_cut : pairs_of (take n a) (take n b) ≡ pairs_of a b
  pairs_cut = rw e (cut_pairs a b)

  pub risen-cut :
      {Q T : List ℕ} → Nested Q → Nested T → nodes_in Q T (pairs_of a b) ≡ true → (rises (qs (pairs_of a b)) && rises (ts (pairs_of a b))) ≡ true
      → Risen Q T (take n a) (take n b)
  risen-cut {Q = Q} {T = T} tree_q tree_t h g =
      let w = both_true (rises (qs (pairs_of a b))) (rises (ts (pairs_of a b))) g in
      record {
        tree_q = tree_q;
        tree_t = tree_t;
        same = sym (cut_first a b e) ∙ cut_second a b e;
        nodes = rw pairs_cut h;
        rise_q = rw e (rw (nodes_first a b) at w.0);
        rise_t = rw e (rw (nodes_second a b) at w.1);
      }

pub risen_both : {Q T a b : List ℕ} → Risen Q T a b → (rises (qs (pairs_of a b)) && rises (ts (pairs_of a b))) ≡ true
risen_both {a = a} {b = b} p = whole_by a b p.same rises rises p.rise_q ∙ p.rise_t
