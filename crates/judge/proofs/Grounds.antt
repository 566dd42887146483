-- What is answered of a list of pairs is what its grounds say, and nothing else; just the seeds are accepted.
use mathlib.Core.Path.{◌≡◌, ◌∙◌}
use mathlib.Core.Bool.{◌&&◌}
use mathlib.Core.Logic.{◌↔◌}
use mathlib.Core.List.{List}
use Prim.Native.Nat.{ℕ, ◌<◌}
use lib.ListN.{length}
use borrow.Author.Tests.{not-false}
use Rattle.answer.specs.Grounds.{Decides}
use Rattle.answer.specs.declared.Ground.TheVariants.{OutsideTree, UnlikeNodes, NotRising, AncestryDiffers, LastNotAncestor, BorderUnpaired}
use Rattle.answer.specs.declared.Place.TheVariants as place
use Rattle.answer.specs.Answer.{Accepted}
use Rattle.answer.proofs.Given.{not_given}
use Rattle.answer.specs.Tells.{Tells}
use Rattle.answer.proofs.Tells.{tells_and, tells_not}
use Rattle.answer.proofs.Grounds.{ground, guard}
use Rattle.tree.specs.Nested.{Nested}
use Rattle.tree.specs.Reading.{leaves_of, node_kinds_of}
use Rattle.tree.specs.declared.Tree.{Tree}
use Rattle.seed.specs.Seed.{Nodes, Pattern, Seed, qs, ts}
use Rattle.seed.specs.Tests.{nodes_in, same_kinds, rises, alike, rooted, bordered}
use Rattle.seed.specs.declared.Pair.{Pair}
use Rattle.seed.proofs.SeedTest.{tells_nodes, tells_like, tells_rises, tells_alike, tells_rooted, tells_bordered, rising_mapping, rises_too}
use Rattle.judge.specs.Grounds.{BothRise, BothBordered, PairsSay}
use Rattle.judge.specs.Judge.{pattern_answer, judge_on, judge_of}
use Rattle.judge.proofs.JudgeSteps.{judge_none, judge_pattern}

tells_both_rise : (s : List Pair) → Tells (rises (qs s) && rises (ts s)) (BothRise s)
tells_both_rise s = tells_and _ _ (tells_rises (qs s)) (tells_rises (ts s))

module _ {Q T : List ℕ} (tree_q : Nested Q) (tree_t : Nested T) (s : List Pair) (n : ℕ) where
  tells_both_bordered : Tells (bordered Q (qs s) && bordered T (ts s)) (BothBordered Q T s)
  tells_both_bordered = tells_and _ _ (tells_bordered tree_q (qs s)) (tells_bordered tree_t (ts s))

  accepted_pattern : 0 < length s → Nodes Q T s → pattern_answer Q T s n ≡ Accepted → Pattern Q T s
  unfolding pattern_answer
  accepted_pattern h inside e =
      let b = not_given _ NotRising (place.Seed n) _ e in
      let c = not_given _ AncestryDiffers (place.Seed n) _ b.1 in
      let d = not_given _ LastNotAncestor (place.Seed n) _ c.1 in
      let f = not_given _ BorderUnpaired (place.Seed n) _ d.1 in
      let rise = (tells_both_rise s).0 (not-false _ b.0) in
      let border = tells_both_bordered.0 (not-false _ f.0) in
      record {
        some = h;
        nodes = inside;
        mapping = rising_mapping Q T s rise.0 rise.1 ((tells_alike Q T s).0 (not-false _ c.0));
        rising = rise.0;
        rooted = (tells_rooted Q T s).0 (not-false _ d.0);
        border_q = border.0;
        border_t = border.1;
      }

  pattern_accepted : Pattern Q T s → pattern_answer Q T s n ≡ Accepted
  pattern_accepted h =
      judge_none Q T s n
      ((tells_both_rise s).1 (h.rising, rises_too s (λ a b ma mb. (h.mapping a b ma mb).before.0) h.rising))
      ((tells_alike Q T s).1 (λ a b ma mb. (h.mapping a b ma mb).above))
      ((tells_rooted Q T s).1 h.rooted)
      (tells_both_bordered.1 (h.border_q, h.border_t))

module _ (q t : Tree) (tree_q : Nested (leaves_of q)) (tree_t : Nested (leaves_of t)) (s : List Pair) (n : ℕ) where
  pub pairs_decide : Decides (PairsSay q t s n) (judge_of q t s n)
  unfolding judge_on pattern_answer
  pairs_decide =
      let Q = leaves_of q in
      let T = leaves_of t in
      guard _ (tells_not (nodes_in Q T s) (tells_nodes Q T s)) OutsideTree (place.Seed n)
      (guard _ (tells_not (same_kinds (node_kinds_of q) (node_kinds_of t) s) (tells_like q t s)) UnlikeNodes (place.Seed n)
      (guard _ (tells_not (rises (qs s) && rises (ts s)) (tells_both_rise s)) NotRising (place.Seed n)
      (guard _ (tells_not (alike Q T s) (tells_alike Q T s)) AncestryDiffers (place.Seed n)
      (guard _ (tells_not (rooted Q T s) (tells_rooted Q T s)) LastNotAncestor (place.Seed n)
      (ground _ (tells_not (bordered Q (qs s) && bordered T (ts s)) (tells_both_bordered tree_q tree_t s n)) BorderUnpaired (place.Seed n))))))

  accepted_seed : 0 < length s → judge_of q t s n ≡ Accepted → Seed q t s
  unfolding judge_on
  accepted_seed h e =
      let a = not_given _ OutsideTree (place.Seed n) _ e in
      let b = not_given _ UnlikeNodes (place.Seed n) _ a.1 in
      record {
        pattern = accepted_pattern tree_q tree_t s n h ((tells_nodes (leaves_of q) (leaves_of t) s).0 (not-false _ a.0)) b.1;
        like = (tells_like q t s).0 (not-false _ b.0);
      }

  seed_accepted : Seed q t s → judge_of q t s n ≡ Accepted
  seed_accepted h =
      judge_pattern _ _ _ _ s n ((tells_nodes (leaves_of q) (leaves_of t) s).1 h.pattern.nodes) ((tells_like q t s).1 h.like)
      ∙ pattern_accepted tree_q tree_t s n h.pattern

  -- A list that is not empty is accepted exactly if it is a seed.
  pub accepts_seeds : 0 < length s → (judge_of q t s n ≡ Accepted) ↔ Seed q t s
  accepts_seeds h = (accepted_seed h, seed_accepted)
