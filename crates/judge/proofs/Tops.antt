-- The highest nodes passed of which a test is true, and the children of the next one.
use mathlib.Core.Path.{◌≡◌, sym, ◌∙◌}
use mathlib.Core.Bool.{Bool, true, false, true≢false}
use mathlib.Core.Logic.{inl, inr}
use mathlib.Core.List.{List}
use Prim.Native.Nat.{ℕ, ◌+◌, ◌-◌, ◌≤◌, ◌<◌}
use native.Mathlib.Omega.{arith}
use lib.ListN.{length, get_or, set}
use lib.Seq.{get_or-set_same, get_or-set_other}
use Rattle.std.specs.Prelude.{Some}
use Rattle.tree.specs.Nested.{leaf, In, Nested}
use Rattle.tree.proofs.Leaves.{lt_or_le}
use Rattle.seed.specs.Tests.{children}
use Rattle.seed.proofs.Trees.{own, nest, self, within}
use Rattle.answer.proofs.Tells.{tells_not_false}
use Rattle.judge.proofs.JudgeSteps.{Walked, walk_start, walk_end, walk_no, walk_on}
use Rattle.judge.specs.inner.Steps.{Ups, Cut, Tops, Joined}
use Rattle.judge.specs.inner.Steps.Joined.{whole}
use Rattle.judge.proofs.Rising.{ups_most}

-- A test that cannot be true is false.
pub never : (b : Bool) → (b ≡ true → ⊥) → b ≡ false
never b n = tells_not_false b ((λ e. e, λ e. e)) n

module _ {f : ℕ → Bool} {l tops : List ℕ} {count x : ℕ} (tree : Nested l) (t : Tops f l tops count x) where
  pub tops_ups : Ups count tops
  tops_ups j k h g = omega (arith, t.apart j k h g, own tree (get_or tops k 0))

  -- Nodes of which the test is not true add no top.
  pub tops_skip : (y : ℕ) → x ≤ y → ((z : ℕ) → x ≤ z → z < y → f z ≡ false) → Tops f l tops count y
  tops_skip y h none =
      record {
        few = omega (arith, t.few);
        before = λ p u. omega (arith, t.before p u);
        apart = t.apart;
        each = t.each;
        all = λ z u e. elim (lt_or_le z x) [ inl w ↦ t.all z w e | inr w ↦ absurd (true≢false (sym e ∙ none z w u)) ];
      }

  -- Node x becomes a top, and those in its subtree are tops no more.
  module _ {left : ℕ} (c : Cut count tops (leaf l x) left) (room : left < length tops) (e : f x ≡ true) where
    same : get_or (set tops left x) left 0 ≡ x
    same = get_or-set_same tops left x 0 room

    other : (p : ℕ) → p < left → get_or (set tops left x) p 0 ≡ get_or tops p 0
    other p h = get_or-set_other tops left p x 0 (λ d. omega arith)

    here : (P : ℕ → Type 0) → P x → (p : ℕ) → p ≡ left → P (get_or (set tops left x) p 0)
    here P h p d = rw (d, same) h

    pub tops_put : Tops f l (set tops left x) (left + 1) (x + 1)
    tops_put =
        record {
          few = omega (arith, t.few, c.within);
          before = λ p u.
              elim (lt_or_le p left) [
                | inl w ↦ rw (other p w) (omega (arith, t.before p (omega (arith, c.within))))
                | inr w ↦ here (λ (y : ℕ). y < x + 1) (omega arith) p (omega arith)
              ];
          apart = λ j k h u.
              elim (lt_or_le k left) [
                | inl w ↦ rw (other j (omega arith), other k w) (t.apart j k h (omega (arith, c.within)))
                | inr w ↦ rw (other j (omega arith)) (here (λ (y : ℕ). get_or tops j 0 < leaf l y) (c.before j (omega arith)) k (omega arith))
              ];
          each = λ p u.
              elim (lt_or_le p left) [
                | inl w ↦ rw (other p w) (t.each p (omega (arith, c.within)))
                | inr w ↦ here (λ (y : ℕ). f y ≡ true) e p (omega arith)
              ];
          all = λ z u d. elim (lt_or_le z x) [ inl w ↦ old z (t.all z w d) | inr w ↦ let g : z ≡ x = omega arith in (left, omega arith, rw (same, g) (self tree x)) ];
        }
      where
        old : (z : ℕ) → (p : ℕ) × (p < count) × In l (get_or tops p 0) z → (p : ℕ) × (p < left + 1) × In l (get_or (set tops left x) p 0) z
        old z w =
            elim (lt_or_le w.0 left) [
              | inl h ↦ (w.0, omega arith, rw (other w.0 h) w.2)
              | inr h ↦ (
                left,
                omega arith,
                rw same (within tree x (get_or tops w.0 0) z (c.after w.0 h w.1, omega (arith, t.before w.0 w.1)) w.2),
              )
            ]

  -- The walk over the children of node x, down to end: those passed are the tops from `left` on.
  pub record Down (left end : ℕ) : Type 0 where
    pub fewer : left < count
    pub low : leaf l x ≤ end
    pub high : end ≤ x
    pub before : (p : ℕ) → p < left → get_or tops p 0 < end
    pub after : (p : ℕ) → left ≤ p → p < count → end ≤ leaf l (get_or tops p 0)
    pub walked : Walked f l (leaf l x) x end

  -- Past the top that ends where the walk stands.
  module _ {left end : ℕ} (some : 0 < left) (most : left ≤ count) (before : (p : ℕ) → p < left → get_or tops p 0 < end)
      (after : (p : ℕ) → left ≤ p → p < count → end ≤ leaf l (get_or tops p 0)) (low : leaf l x < end) (high : end ≤ x)
      (walked : Walked f l (leaf l x) x end) (ends : get_or tops (left - 1) 0 + 1 ≡ end) where
    down_past : Down (left - 1) (leaf l (get_or tops (left - 1) 0))
    down_past =
        let top = get_or tops (left - 1) 0 in
        let o = own tree top in
        let z : end - 1 ≡ top = omega arith in
        record {
          fewer = omega arith;
          low = nest tree top x (omega arith, omega arith);
          high = omega arith;
          before = λ p u. t.apart p (left - 1) u (omega arith);
          after = λ p u v.
              elim (lt_or_le p left) [
                | inl w ↦ let e : p ≡ left - 1 = omega arith in rw e (omega arith)
                | inr w ↦ omega (arith, after p w v)
              ];
          walked = rw z at (walk_on tree walked low (rw z (t.each (left - 1) (omega arith))));
        }

  pub down_start : 0 < count → get_or tops (count - 1) 0 + 1 ≡ x → leaf l x < x → Down (count - 1) (leaf l (x - 1))
  down_start some e h =
      let z : x - 1 ≡ get_or tops (count - 1) 0 = omega arith in
      rw z
      (down_past some (omega arith) (λ p u. t.before p u) (λ p u v. absurd (omega arith)) h (omega arith) walk_start e)

  module _ {left end : ℕ} (d : Down left end) (h : leaf l x < end) where
    pub down_on : 0 < left → get_or tops (left - 1) 0 + 1 ≡ end → Down (left - 1) (leaf l (get_or tops (left - 1) 0))
    down_on some e = down_past some (omega (arith, d.fewer)) d.before d.after h d.high d.walked e

    -- No top ends there, so the child that does is none.
    pub down_no : (0 < left → get_or tops (left - 1) 0 + 1 ≡ end → ⊥) → children f l (leaf l x) x x ≡ false
    down_no n = walk_no tree d.walked h (never _ (λ e. out (t.all (end - 1) (omega (arith, d.high)) e)))
      where
        out : (p : ℕ) × (p < count) × In l (get_or tops p 0) (end - 1) → ⊥
        out w =
            elim (lt_or_le w.0 left) [
              | inl u ↦
                  n (omega arith)
                  (omega (arith, w.2, d.before (left - 1) (omega arith), ups_most tops tops_ups w.0 (left - 1) (omega arith) (omega (arith, d.fewer))))
              | inr u ↦ omega (arith, w.2, d.after w.0 u w.1)
            ]

  pub down_end : {left end : ℕ} → Down left end → end ≤ leaf l x → Joined f l tops count x (Some left)
  down_end d h =
      whole d.fewer
      (record {
        within = omega (arith, d.fewer);
        before = λ p u. omega (arith, d.before p u, d.low);
        after = λ p u v. omega (arith, d.after p u v, d.low, own tree (get_or tops p 0));
      })
      (walk_end tree d.walked h)

-- The walk stands so for any test of which these are the tops.
abbrev pub Downs : List ℕ → List ℕ → ℕ → ℕ → ℕ → ℕ → Type 0
Downs l tops count x left end =
    (f : ℕ → Bool) (tree : Nested l) (t : Tops f l tops count x) → get_or tops (count - 1) 0 + 1 ≡ x → leaf l x < x → Down tree t left end
