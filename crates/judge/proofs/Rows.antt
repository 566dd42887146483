-- Ancestry by rows: where the row of the listed nodes below a node begins, and what the rows of both trees say of it.
use mathlib.Core.Path.{◌≡◌, refl, sym}
use mathlib.Core.Bool.{Bool, true, false}
use mathlib.Core.Logic.{◌⊎◌, inl, inr, ◌↔◌}
use mathlib.Core.List.{List, [], ◌∷◌}
use Prim.Native.Nat.{ℕ, zero, suc, ◌+◌, ◌-◌, ◌≤◌, ◌<◌}
use native.Mathlib.Omega.{arith}
use lib.ListN.{length, get_or, set, length-set}
use lib.Seq.{get_or-set_same, get_or-set_other}
use Rattle.tree.specs.Nested.{leaf, Above}
use Rattle.tree.proofs.Leaves.{lt_or_le}
use Rattle.seed.specs.Tests.{every, alike_at, alike_to}
use Rattle.seed.specs.Pairs.{pair_of, pairs_of}
use Rattle.seed.specs.declared.Pair.{Pair}
use Rattle.seed.proofs.Trees.{own, nest}
use Rattle.answer.specs.Tells.{Tells}
use Rattle.answer.proofs.Tells.{tells_as, tells_and, tells_same}
use Rattle.seed.proofs.Sides.{tells_above}
use Rattle.seed.proofs.PairLists.{count_first}
use Rattle.judge.specs.inner.Steps.{Ups, Cut, Rows, Risen}
use Rattle.judge.proofs.Rising.{ups_most, rises_ups, cut_at, cut_early}

-- Two tests that tell the same are the same.
pub tells_one : (b d : Bool) {P : Type 0} → Tells b P → Tells d P → b ≡ d
tells_one true d s t = sym (t.1 (s.0 refl))
tells_one false true s t = s.1 (t.0 refl)
tells_one false false s t = refl

-- The nodes from `start` up to a place are in the subtree of the node there.
pub record Row (l xs : List ℕ) (place start : ℕ) : Type 0 where
  pub within : start ≤ place
  pub from : (p : ℕ) → start ≤ p → p < place → leaf l (get_or xs place 0) ≤ get_or xs p 0

pub row_own : (l xs : List ℕ) (place : ℕ) → Row l xs place place
row_own l xs place = record { within = omega arith; from = λ p u v. absurd (omega arith) }

module _ {l xs rows : List ℕ} {place : ℕ} (r : Rows l xs rows place) (h : place < length xs) where
  module _ {start : ℕ} (p : Row l xs place start) (some : 0 < start) where
    pub row_less : get_or rows (start - 1) 0 < start
    row_less = omega (arith, p.within, cut_early r.tree xs (start - 1) (r.begins (start - 1) (omega (arith, p.within))))

    -- With a node its whole row is in the subtree.
    pub row_on : leaf l (get_or xs place 0) ≤ get_or xs (start - 1) 0 → Row l xs place (get_or rows (start - 1) 0)
    row_on g =
        record {
          within = omega (arith, p.within, row_less);
          from = λ j u v.
              elim (lt_or_le j (start - 1)) [
                | inl w ↦ omega (arith, p.within, (r.begins (start - 1) (omega (arith, p.within))).after j u (omega arith), inner)
                | inr w ↦ elim (lt_or_le (start - 1) j) [ inl z ↦ p.from j (omega arith) v | inr z ↦ let e : j ≡ start - 1 = omega arith in rw e g ]
              ];
        }
      where
        inner : leaf l (get_or xs place 0) ≤ leaf l (get_or xs (start - 1) 0)
        inner = nest r.tree (get_or xs (start - 1) 0) (get_or xs place 0) (g, ups_most xs r.ups (start - 1) place (omega (arith, p.within)) h)

  -- The row's beginning cuts the list.
  pub row_cut : {start : ℕ} → Row l xs place start → (0 < start → get_or xs (start - 1) 0 < leaf l (get_or xs place 0)) → Cut (length xs) xs (leaf l (get_or xs place 0)) start
  row_cut {start = start} p b = cut_at xs r.ups (omega (arith, p.within)) b (λ u. from (lt_or_le start place))
    where
      from : (start < place) ⊎ (place ≤ start) → leaf l (get_or xs place 0) ≤ get_or xs start 0
      from (inl w) = p.from start (omega arith) w
      from (inr w) = let e : start ≡ place = omega (arith, p.within) in rw e (own r.tree (get_or xs place 0))

  pub row_put : (start : ℕ) → Cut (length xs) xs (leaf l (get_or xs place 0)) start → Rows l xs (set rows place start) (place + 1)
  row_put start p =
      record {
        tree = r.tree;
        ups = r.ups;
        room = omega (arith, r.room, length-set rows place start);
        begins = λ j u.
            elim (lt_or_le j place) [
              | inl w ↦ let ne : j ≡ place → ⊥ = λ e. omega arith in rw (get_or-set_other rows place j start 0 ne) (r.begins j w)
              | inr w ↦ let e : j ≡ place = omega arith in let z : place < length rows = omega (arith, r.room) in rw (e, get_or-set_same rows place start 0 z) p
            ];
      }

pub rows_start : {Q T a b : List ℕ} → Risen Q T a b → (rows : List ℕ) → length a ≤ length rows → Rows Q a rows 0
rows_start {a = a} p rows h = record { tree = p.tree_q; ups = rises_ups a p.rise_q; room = h; begins = λ j u. absurd (omega arith) }

-- A list of pairs told by places.
pub every_at : (f : Pair → Bool) (a b : List ℕ) → Tells (every f (pairs_of a b)) ((j : ℕ) → j < length (pairs_of a b) → f (pair_of (get_or a j 0) (get_or b j 0)) ≡ true)
unfolding every pairs_of
every_at f [] b = (λ e j h. absurd (omega arith), λ h. refl)
every_at f (x ∷ a) [] = (λ e j h. absurd (omega arith), λ h. refl)
every_at f (x ∷ a) (y ∷ b) =
    tells_as (tells_and (f (pair_of x y)) (every f (pairs_of a b)) ((λ e. e, λ e. e)) (every_at f a b))
    (λ h. forth h.0 h.1)
    (λ h. (h 0 (omega arith), λ j g. h (suc j) (omega arith)))
  where
    forth : f (pair_of x y) ≡ true → ((j : ℕ) → j < length (pairs_of a b) → f (pair_of (get_or a j 0) (get_or b j 0)) ≡ true) → (j : ℕ) → j < suc (length (pairs_of a b)) → f (pair_of (get_or (x ∷ a) j 0) (get_or (y ∷ b) j 0)) ≡ true
    forth e g zero h = e
    forth e g (suc j) h = g j (omega arith)

-- Ancestry between the pair at place i and each of the list is alike exactly if its row begins in T where it begins in Q.
module _ {Q T a b : List ℕ} (p : Risen Q T a b) (i start : ℕ) (h : i < length a) (c : Cut (length a) a (leaf Q (get_or a i 0)) start) where
  abbrev Like : ℕ → Type 0
  Like j = Above Q (get_or a i 0) (get_or a j 0) ↔ Above T (get_or b i 0) (get_or b j 0)

  up_a : Ups (length a) a
  up_a = rises_ups a p.rise_q

  up_b : Ups (length b) b
  up_b = rises_ups b p.rise_t

  like : Cut (length b) b (leaf T (get_or b i 0)) start → (j : ℕ) → j < length a → Like j
  like d j u =
      elim (lt_or_le j i) [
        | inr w ↦
            let x = ups_most a up_a i j w u in
            let y = ups_most b up_b i j w (omega (arith, p.same)) in
            (λ z. absurd (omega arith), λ z. absurd (omega arith))
        | inl w ↦
            let x = up_a j i w h in
            let y = up_b j i w (omega (arith, p.same)) in
            elim (lt_or_le j start) [
              | inl v ↦ let m = c.before j v in let n = d.before j v in (λ z. absurd (omega arith), λ z. absurd (omega arith))
              | inr v ↦ let m = c.after j v u in let n = d.after j v (omega (arith, p.same)) in (λ z. omega arith, λ z. omega arith)
            ]
      ]

  early : start ≤ i
  early = cut_early p.tree_q a i c

  like_cut : ((j : ℕ) → j < length a → Like j) → Cut (length b) b (leaf T (get_or b i 0)) start
  like_cut all =
      record {
        within = omega (arith, c.within, p.same);
        before = λ j u.
            elim (lt_or_le (get_or b j 0) (leaf T (get_or b i 0))) [
              | inl w ↦ w
              | inr w ↦ absurd (omega (arith, early, c.before j u, (all j (omega (arith, early))).1 (w, up_b j i (omega (arith, early)) (omega (arith, p.same)))))
            ];
        after = λ j u v.
            elim (lt_or_le j i) [
              | inl w ↦ ((all j (omega (arith, p.same))).0 (c.after j u (omega (arith, p.same)), up_a j i w h)).0
              | inr w ↦ omega (arith, own p.tree_t (get_or b i 0), ups_most b up_b i j w v)
            ];
      }

  alike_cut : Tells (alike_to Q T (pairs_of a b) (pair_of (get_or a i 0) (get_or b i 0))) (Cut (length b) b (leaf T (get_or b i 0)) start)
  unfolding alike_to alike_at
  alike_cut =
      let n : length (pairs_of a b) ≡ length a = count_first a b (omega (arith, p.same)) in
      tells_as (every_at (alike_at Q T (pair_of (get_or a i 0) (get_or b i 0))) a b)
      (λ all. like_cut (λ j u. (told j).0 (all j (omega arith))))
      (λ d j u. (told j).1 (like d j (omega arith)))
    where
      told : (j : ℕ) → Tells (alike_at Q T (pair_of (get_or a i 0) (get_or b i 0)) (pair_of (get_or a j 0) (get_or b j 0))) (Like j)
      told j = tells_same _ _ (tells_above Q (get_or a i 0) (get_or a j 0)) (tells_above T (get_or b i 0) (get_or b j 0))

  -- By the leaf of the pair's node in T.
  pub alike-looked :
      {low : ℕ} → low ≡ leaf T (get_or b i 0) → {r : Bool} → (r ≡ true → Cut (length b) b low start) × (Cut (length b) b low start → r ≡ true)
      → alike_to Q T (pairs_of a b) (pair_of (get_or a i 0) (get_or b i 0)) ≡ r
  alike-looked e {r = r} t = tells_one _ r alike_cut (rw e at t)
