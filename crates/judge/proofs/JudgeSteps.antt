-- What each answer of the judge's code says of its tests.
use mathlib.Core.Path.{◌≡◌, refl, ap, ◌∙◌}
use mathlib.Core.Bool.{Bool, true, false, ◌&&◌, ◌||◌}
use mathlib.Core.List.{List, [], ◌∷◌}
use Prim.Native.Nat.{ℕ, zero, suc, ◌≤◌, ◌<◌, ◌-◌}
use native.Mathlib.Omega.{arith}
use lib.Dec.{eqb, leb}
use lib.ListN.{length, get_or}
use borrow.Author.Tests.{le-leb, lt-leb, le-ltb, lt-ltb, ne_eqb}
use Rattle.std.specs.Prelude.{Result, Ok, Err}
use Rattle.answer.specs.Refusal.{refusal_at, result_of}
use Rattle.answer.specs.declared.Refusal.{Refusal}
use Rattle.answer.specs.declared.Ground.{Ground}
use Rattle.answer.specs.declared.Place.{Place}
use Rattle.answer.specs.Answer.{Answer, Accepted, Refused}
use Rattle.answer.specs.declared.Ground.TheVariants.{OutsideTree, UnlikeNodes, NotRising, AncestryDiffers, LastNotAncestor, BorderUnpaired}
use Rattle.answer.specs.declared.Place.TheVariants as place
use Rattle.tree.specs.Nested.{leaf, Nested}
use Rattle.seed.specs.Seed.{qs, ts, last_or, last_node}
use Rattle.seed.specs.Tests.{some, node_in, nodes_in, same_kind, same_kinds, rises, alike, rooted, spans, children, paired, bordered}
use Rattle.judge.specs.Judge.{pattern_answer, judge_on}
use Rattle.seed.specs.Pairs.{pair_of}
use Rattle.seed.specs.declared.Pair.{Pair}
use Rattle.seed.proofs.Trees.{own}

-- Nodes in their trees.
module _ (n m q t : ℕ) where
  pub node_no_q : n ≤ q → node_in n m (pair_of q t) ≡ false
  unfolding node_in
  node_no_q h = rw (le-ltb q n h)

  pub node_no_t : q < n → m ≤ t → node_in n m (pair_of q t) ≡ false
  unfolding node_in
  node_no_t g h = rw (lt-ltb q n g, le-ltb t m h)

  pub node_yes : q < n → t < m → node_in n m (pair_of q t) ≡ true
  unfolding node_in
  node_yes g h = rw (lt-ltb q n g, lt-ltb t m h)

-- Nodes of one kind.
pub kind_asked : (K L : List ℕ) (q t : ℕ) → eqb (get_or K q 0) (get_or L t 0) ≡ same_kind K L (pair_of q t)
unfolding same_kind
kind_asked K L q t = refl

-- The last node.
last_node_of : (x : ℕ) (xs : List ℕ) → last_or x xs ≡ get_or (x ∷ xs) (length xs) 0
last_node_of x [] = refl
last_node_of x (y ∷ ys) = last_node_of y ys

pub last_node_at : (xs : List ℕ) → last_node xs ≡ get_or xs (length xs - 1) 0
last_node_at [] = refl
last_node_at (x ∷ xs) = let z : suc (length xs) - 1 ≡ length xs = omega arith in rw z (last_node_of x xs)

-- Spans.
module _ (l xs : List ℕ) (x : ℕ) where
  pub spans_in : some (eqb x) xs ≡ true → spans l xs x ≡ true
  unfolding spans
  spans_in e = rw e

-- The walk over the children of node x, whose subtree starts at low, down to end: those passed were true.
pub record Walked (f : ℕ → Bool) (l : List ℕ) (low x end : ℕ) : Type 0 where
  pub rest : children f l low x x ≡ children f l low end end

pub walk_start : {f : ℕ → Bool} {l : List ℕ} {low x : ℕ} → Walked f l low x x
walk_start = record { rest = refl }

-- Steps past the end of the walk change nothing.
module _ {l : List ℕ} (tree : Nested l) (f : ℕ → Bool) (low : ℕ) where
  steps_past : (k j e : ℕ) → e ≤ k → e ≤ j → children f l low k e ≡ children f l low j e
  unfolding children
  steps_past zero zero e h g = refl
  steps_past zero (suc j) e h g = let z : e ≤ low = omega arith in rw (le-leb e low z)
  steps_past (suc k) zero e h g = let z : e ≤ low = omega arith in rw (le-leb e low z)
  steps_past (suc k) (suc j) e h g =
      ap (λ (r : Bool). leb e low || (f (e - 1) && r))
      (steps_past k j (leaf l (e - 1)) (omega (arith, own tree (e - 1))) (omega (arith, own tree (e - 1))))

module _ {l : List ℕ} (tree : Nested l) {f : ℕ → Bool} {low x : ℕ} where
  pub walk_end : {end : ℕ} → Walked f l low x end → end ≤ low → children f l low x x ≡ true
  unfolding children
  walk_end {end = zero} p h = p.rest
  walk_end {end = suc e} p h = p.rest ∙ rw (le-leb (suc e) low h)

  pub walk_no : {end : ℕ} → Walked f l low x end → low < end → f (end - 1) ≡ false → children f l low x x ≡ false
  unfolding children
  walk_no {end = zero} p h q = absurd (omega arith)
  walk_no {end = suc e} p h q = p.rest ∙ rw (lt-leb (suc e) low h, q)

  pub walk_on : {end : ℕ} → Walked f l low x end → low < end → f (end - 1) ≡ true → Walked f l low x (leaf l (end - 1))
  unfolding children
  walk_on {end = zero} p h q = absurd (omega arith)
  walk_on {end = suc e} p h q =
      record {
        rest =
            p.rest
            ∙ rw (lt-leb (suc e) low h, q)
            (steps_past tree f low e (leaf l (suc e - 1)) (leaf l (suc e - 1)) (omega (arith, own tree (suc e - 1))) (omega arith));
      }

-- Border nodes.
module _ (l xs : List ℕ) (x : ℕ) where
  pub paired_in : some (eqb x) xs ≡ true → paired l xs x ≡ true
  unfolding paired
  paired_in e = rw e

  module _ (e : some (eqb x) xs ≡ false) where
    pub paired_by : spans l xs x ≡ true → (leaf l x ≡ x → ⊥) → paired l xs x ≡ children (spans l xs) l (leaf l x) x x
    unfolding paired
    paired_by f g = rw (e, f, ne_eqb (leaf l x) x g)

-- An answer as a result.
pub said_err : {a : Answer} {g : Ground} {p : Place} {e : Refusal} → e ≡ refusal_at g p → a ≡ Refused g p → ◌≡◌ {A = Result (Unit {0}) Refusal} (Err e) (result_of a tt)
said_err e f = rw (e, f)

pub said_ok : {a : Answer} → a ≡ Accepted → ◌≡◌ {A = Result (Unit {0}) Refusal} (Ok tt) (result_of a tt)
said_ok f = rw f

-- The judge's ways out.
module _ (Q T : List ℕ) (s : List Pair) (n : ℕ) where
  pub judge_16 : (rises (qs s) && rises (ts s)) ≡ false → pattern_answer Q T s n ≡ Refused NotRising (place.Seed n)
  unfolding pattern_answer
  judge_16 b = rw b

  module _ (b : (rises (qs s) && rises (ts s)) ≡ true) where
    pub judge_17 : alike Q T s ≡ false → pattern_answer Q T s n ≡ Refused AncestryDiffers (place.Seed n)
    unfolding pattern_answer
    judge_17 c = rw (b, c)

    module _ (c : alike Q T s ≡ true) where
      pub judge_18 : rooted Q T s ≡ false → pattern_answer Q T s n ≡ Refused LastNotAncestor (place.Seed n)
      unfolding pattern_answer
      judge_18 d = rw (b, c, d)

      module _ (d : rooted Q T s ≡ true) where
        pub judge_19 : (bordered Q (qs s) && bordered T (ts s)) ≡ false → pattern_answer Q T s n ≡ Refused BorderUnpaired (place.Seed n)
        unfolding pattern_answer
        judge_19 e = rw (b, c, d, e)

        pub judge_none : (bordered Q (qs s) && bordered T (ts s)) ≡ true → pattern_answer Q T s n ≡ Accepted
        unfolding pattern_answer
        judge_none e = rw (b, c, d, e)

module _ (Q T K L : List ℕ) (s : List Pair) (n : ℕ) where
  pub judge_15 : nodes_in Q T s ≡ false → judge_on Q T K L s n ≡ Refused OutsideTree (place.Seed n)
  unfolding judge_on
  judge_15 a = rw a

  module _ (a : nodes_in Q T s ≡ true) where
    pub judge_25 : same_kinds K L s ≡ false → judge_on Q T K L s n ≡ Refused UnlikeNodes (place.Seed n)
    unfolding judge_on
    judge_25 b = rw (a, b)

    pub judge_pattern : same_kinds K L s ≡ true → judge_on Q T K L s n ≡ pattern_answer Q T s n
    unfolding judge_on
    judge_pattern b = rw (a, b)
