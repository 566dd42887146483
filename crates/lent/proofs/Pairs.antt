-- The nodes of a list of pairs hold its first 1,025 pairs, and these are added as the whole list is: of more than 1,024 pairs none is looked at.
use mathlib.Core.Path.{◌≡◌, refl, ap, sym, subst, ◌∙◌}
use mathlib.Core.Bool.{Bool, true, false, not}
use mathlib.Core.Logic.{inl, inr}
use mathlib.Core.List.{List, [], ◌∷◌, ◌++◌, append_assoc, append-nil}
use Prim.Native.Nat.{ℕ, zero, suc, ◌+◌, ◌≤◌, ◌<◌}
use native.Mathlib.Numerals.{add-one}
use native.Mathlib.Omega.{arith}
use lib.Dec.{leb}
use lib.IntN.{ℤ}
use lib.ListN.{length, take, drop, get_or, set, length-set, length-replicate}
use lib.Seq.{drop-cons, drop-length, take_all, take-nil, take-suc-set, length-take-le}
use borrow.Author.Tests.{lt-ltb, le-ltb, ne_eqb}
use Rattle.answer.specs.Answer.{Answer, given, unless, Accepted, Refused}
use Rattle.answer.proofs.Denied.{denies}
use Rattle.answer.specs.declared.Ground.TheVariants.{ScoreRange, SeedLimit, PairLimit}
use Rattle.answer.specs.declared.Place.{Place}
use Rattle.answer.specs.declared.Place.TheVariants.{Seed}
use Rattle.tree.proofs.Leaves.{lt_or_le}
use Rattle.seed.specs.Pairs.{pair_of, pairs_of}
use Rattle.seed.specs.declared.Pair.{Pair}
use Rattle.table.specs.Rows.{pairs_in_all, in_range}
use Rattle.judge.specs.Judge.{judge_of}
use Rattle.adding.specs.Adding.{limit_answer, next_answer}
use Rattle.chain.specs.State.{State, count_answer}
use Rattle.chain.specs.Acts.{add, add_answer, grounds, step}
use Rattle.chain.specs.View.{view, Does}
use Rattle.chain.specs.declared.Session.{Session}
use Rattle.chain.proofs.Judges.{add_passed}
use Rattle.lent.specs.inner.Listing.{no_nodes, with_one_more, with_pairs, held_in, NodesFit}
use Rattle.lent.specs.declared.listing.NodeLists.{NodeLists}

-- One pair more is taken off what is left, until nothing is.
pub pairs_step : (ps : List Pair) (i : ℕ) (d : Pair) (n : NodeLists) → i < length ps → with_pairs (drop i ps) n ≡ with_pairs (drop (i + 1) ps) (with_one_more n (get_or ps i d).q (get_or ps i d).t)
unfolding with_pairs
pairs_step ps i d n h = ap (λ (rest : List Pair). with_pairs rest n) (drop-cons ps i d h) ∙ ap (λ (k : ℕ). with_pairs (drop k ps) (with_one_more n (get_or ps i d).q (get_or ps i d).t)) (sym (add-one i))

pub pairs_end : (ps : List Pair) (i : ℕ) (n : NodeLists) → i ≡ length ps → with_pairs (drop i ps) n ≡ n
unfolding with_pairs
pairs_end ps i n e = ap (λ (k : ℕ). with_pairs (drop k ps) n) e ∙ ap (λ (rest : List Pair). with_pairs rest n) (drop-length ps)

-- Two lists of 1,025 nodes each, and a count within.
record Sized (n : NodeLists) : Type 0 where
  count : n.count ≤ 1025
  size_q : length n.qs ≡ 1025
  size_t : length n.ts ≡ 1025

sized_none : Sized no_nodes
unfolding no_nodes
sized_none = record { count = omega arith; size_q = length-replicate {A = ℕ} 1025 0; size_t = length-replicate {A = ℕ} 1025 0 }

-- One pair more on two lists of one length.
pairs_more : (a b : List ℕ) (q t : ℕ) → length a ≡ length b → pairs_of (a ++ q ∷ []) (b ++ t ∷ []) ≡ pairs_of a b ++ pair_of q t ∷ []
unfolding pairs_of
pairs_more [] [] q t e = refl
pairs_more [] (y ∷ b) q t e = absurd (omega arith)
pairs_more (x ∷ a) [] q t e = absurd (omega arith)
pairs_more (x ∷ a) (y ∷ b) q t e = ap (λ (ps : List Pair). pair_of x y ∷ ps) (pairs_more a b q t (omega arith))

module _ (n : NodeLists) (h : Sized n) (q t : ℕ) where
  stored : n.count < 1025 → with_one_more n q t ≡ record { count = n.count + 1; qs = set n.qs n.count q; ts = set n.ts n.count t }
  unfolding with_one_more
  stored less = rw (lt-ltb n.count 1025 less)

  full : 1025 ≤ n.count → with_one_more n q t ≡ n
  unfolding with_one_more
  full most = rw (le-ltb n.count 1025 most)

  sized_more : Sized (with_one_more n q t)
  sized_more =
      elim (lt_or_le n.count 1025) [
        | inl less ↦ rw (stored less) (record { count = omega (arith, less); size_q = length-set n.qs n.count q ∙ h.size_q; size_t = length-set n.ts n.count t ∙ h.size_t })
        | inr most ↦ rw (full most) h
      ]

  held_more : n.count < 1025 → held_in (with_one_more n q t) ≡ held_in n ++ pair_of q t ∷ []
  unfolding held_in
  held_more less =
      let in_q : n.count < length n.qs = omega (arith, h.size_q, less) in
      let in_t : n.count < length n.ts = omega (arith, h.size_t, less) in
      let long_q : length (take n.count n.qs) ≡ n.count = length-take-le n.count n.qs (omega arith) in
      let long_t : length (take n.count n.ts) ≡ n.count = length-take-le n.count n.ts (omega arith) in
      rw (stored less, add-one n.count, take-suc-set n.qs n.count q in_q, take-suc-set n.ts n.count t in_t)
      (pairs_more (take n.count n.qs) (take n.count n.ts) q t (long_q ∙ sym long_t))

sized_all : (ps : List Pair) (n : NodeLists) → Sized n → Sized (with_pairs ps n)
unfolding with_pairs
sized_all [] n h = h
sized_all (p ∷ ps) n h = sized_all ps (with_one_more n p.q p.t) (sized_more n h p.q p.t)

-- With room for k pairs more, the first k of a list are added to those held.
held_all : (ps : List Pair) (n : NodeLists) (k : ℕ) → Sized n → n.count + k ≡ 1025 → held_in (with_pairs ps n) ≡ held_in n ++ take k ps
unfolding with_pairs
held_all [] n k h e = rw (take-nil {A = Pair} k) (sym (append-nil (held_in n)))
held_all (p ∷ ps) n zero h e = rw (full n h p.q p.t (omega arith)) (held_all ps n zero h e)
held_all (p ∷ ps) n (suc k) h e =
    let less : n.count < 1025 = omega arith in
    let more : (with_one_more n p.q p.t).count ≡ n.count + 1 = ap (λ (m : NodeLists). m.count) (stored n h p.q p.t less) in
    held_all ps (with_one_more n p.q p.t) k (sized_more n h p.q p.t) (omega arith)
    ∙ ap (λ (held : List Pair). held ++ take k ps) (held_more n h p.q p.t less)
    ∙ append_assoc (held_in n) (p ∷ []) (take k ps)

pub listed_filled : (ps : List Pair) → NodesFit (with_pairs ps no_nodes)
listed_filled ps =
    let h = sized_all ps no_nodes sized_none in
    record { room_q = omega (arith, h.count, h.size_q); room_t = omega (arith, h.count, h.size_t) }

-- The first 1,025 pairs are held.
pub listed_first : (ps : List Pair) → held_in (with_pairs ps no_nodes) ≡ take 1025 ps
unfolding no_nodes held_in pairs_of
listed_first ps = held_all ps no_nodes 1025 sized_none refl

-- More than 1,024 pairs are refused by 11, 13 or 14, whatever the pairs are.
abbrev too_many : Bool → Bool → Place → Answer
too_many score seeds p = given score ScoreRange p (given seeds SeedLimit p (Refused PairLimit p))

limit_many : (seeds pairs count : ℕ) (z : ℤ) → 1024 < count → limit_answer seeds pairs count z ≡ too_many (not (in_range z)) (leb 64 seeds) (Seed (seeds + 1))
unfolding limit_answer
limit_many seeds pairs count z h = rw (ne_eqb count 0 (λ e. omega arith), lt-ltb 1024 (pairs + count) (omega arith))

denied : (b c : Bool) (p : Place) (later : Answer) → unless (too_many b c p) later ≡ too_many b c p
denied true c p later = refl
denied false true p later = refl
denied false false p later = refl

never_accepted : (b c : Bool) (p : Place) → too_many b c p ≡ Accepted → ⊥
never_accepted true c p e = denies {x = Refused ScoreRange p} refl e
never_accepted false true p e = denies {x = Refused SeedLimit p} refl e
never_accepted false false p e = denies {x = Refused PairLimit p} refl e

abbrev many_answer : State → ℤ → Answer
many_answer s z = too_many (not (in_range z)) (leb 64 (length s.rows)) (Seed (length s.rows + 1))

add_many : (s : State) (ps : List Pair) (z : ℤ) → 1024 < length ps → add_answer s ps z ≡ many_answer s z
unfolding next_answer
add_many s ps z h =
    let judged : Answer = judge_of s.q s.t ps (length s.rows + 1) in
    let counted : Answer = count_answer s.changes in
    let number : Place = Seed (length s.rows + 1) in
    ap (λ (x : Answer). unless (unless x judged) counted) (limit_many (length s.rows) (pairs_in_all s.rows) (length ps) z h)
    ∙ ap (λ (x : Answer). unless x counted) (denied (not (in_range z)) (leb 64 (length s.rows)) number judged)
    ∙ denied (not (in_range z)) (leb 64 (length s.rows)) number counted

-- So an add of more pairs answers the same whatever they are, and is refused.
pub alike_many : (s : State) (ps ps' : List Pair) (z : ℤ) → 1024 < length ps → 1024 < length ps' → grounds s (add ps z) ≡ grounds s (add ps' z)
unfolding grounds
alike_many s ps ps' z h h' = rw (add_many s ps z h, add_many s ps' z h')

refused_many : (s : State) (ps : List Pair) (z : ℤ) → 1024 < length ps → grounds s (add ps z) ≡ Accepted → ⊥
refused_many s ps z h e = never_accepted (not (in_range z)) (leb 64 (length s.rows)) _ (sym (add_many s ps z h) ∙ add_passed s ps z e)

-- So the pairs held are added as the whole list is.
does_many : (s r : Session) (ps ps' : List Pair) (z : ℤ) (a : Answer) → 1024 < length ps → 1024 < length ps' → Does s (add ps z) a r → Does s (add ps' z) a r
does_many s r ps ps' z a h h' d =
    let denial : a ≡ Accepted → ⊥ = λ e. refused_many (view s) ps z h (sym d.answers ∙ e) in
    record {
      answers = d.answers ∙ alike_many (view s) ps ps' z h h';
      leaves = ap view (d.refused denial) ∙ sym (refused_still a denial);
      sound = d.sound;
      refused = d.refused;
    }
  where
    refused_still : (b : Answer) → (b ≡ Accepted → ⊥) → step (view s) (add ps' z) b ≡ view s
    refused_still Accepted denial = absurd (denial refl)
    refused_still (Refused g p) denial = refl

pub add_listed : (s : Session) (ps : List Pair) (z : ℤ) {a : Answer} {r : Session} → Does s (add (held_in (with_pairs ps no_nodes)) z) a r → Does s (add ps z) a r
add_listed s ps z {a} {r} d =
    elim (lt_or_le 1025 (length ps)) [
      | inl more ↦ does_many s r (take 1025 ps) ps z a (rw (length-take-le 1025 ps (omega arith)) (omega arith)) (omega arith) first
      | inr all ↦ subst (λ (held : List Pair). Does s (add held z) a r) (take_all 1025 ps all) first
    ]
  where
    first : Does s (add (take 1025 ps) z) a r
    first = subst (λ (held : List Pair). Does s (add held z) a r) (listed_first ps) d
