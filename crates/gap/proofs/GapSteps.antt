-- What one step of the code that finds gaps does to its counts.
use mathlib.Core.Path.{◌≡◌, refl, sym, ap, ◌∙◌}
use mathlib.Core.Logic.{inl, inr}
use mathlib.Core.List.{List, [], ◌∷◌, ◌++◌, append_assoc}
use Prim.Native.Nat.{ℕ, suc, ◌+◌, ◌*◌, ◌-◌, ◌≤◌, ◌<◌}
use native.Mathlib.Omega.{arith}
use native.Mathlib.Numerals.{add-one}
use lib.ListN.{length, get_or, set, drop, replicate, drop_of_length-le}
use lib.Seq.{set_at, drop-cons}
use borrow.Author.Tests.{eq-eqb, ne_eqb}
use Rattle.tree.proofs.Leaves.{lt_or_le}
use Rattle.seed.specs.Tab.{tab}
use Rattle.seed.specs.AreaList.{side}
use Rattle.gap.specs.GapNumbers.{weight, gap_from, gap, filled}
use Rattle.seed.proofs.Tabs.{length_tab, tab_more}

pub weight_left : (n : ℕ) → n ≡ 0 → weight n ≡ 256
unfolding weight
weight_left n e = rw (eq-eqb n 0 e)

pub weight_right : (n : ℕ) → (n ≡ 0 → ⊥) → weight n ≡ 1
unfolding weight
weight_right n e = rw (ne_eqb n 0 e)

pub weight_most : (n : ℕ) → weight n ≤ 256
weight_most n = elim (lt_or_le 0 n) [ inl h ↦ omega (arith, weight_right n (λ e. omega arith)) | inr h ↦ omega (arith, weight_left n (omega arith)) ]

-- The scan for a gap stands before place k of the nodes, with g counted.
pub record Counted (l xs : List ℕ) (i k g : ℕ) : Type 0 where
  pub rest : gap l xs i ≡ gap_from l i (drop k xs) g
  pub small : g ≤ 1 + 256 * k

pub count_start : {l xs : List ℕ} {i : ℕ} → Counted l xs i 0 1
unfolding gap
count_start = record { rest = refl; small = omega arith }

module _ {l xs : List ℕ} {i k g : ℕ} (p : Counted l xs i k g) where
  -- The node at place k lies on the side r.
  module _ {r : ℕ} (at : r ≡ side l (get_or xs k 0) i) (h : k < length xs) where
    pub count_inside : r ≡ 3 → gap l xs i ≡ 0
    unfolding gap_from
    count_inside e = let f : side l (get_or xs k 0) i ≡ 3 = sym at ∙ e in p.rest ∙ rw (drop-cons xs k 0, f)

    pub count_above : r ≡ 2 → gap l xs i ≡ g
    unfolding gap_from
    count_above e = let f : side l (get_or xs k 0) i ≡ 2 = sym at ∙ e in p.rest ∙ rw (drop-cons xs k 0, f)

    pub count_on : {w : ℕ} → w ≡ weight r → (r ≡ 3 → ⊥) → (r ≡ 2 → ⊥) → Counted l xs i (k + 1) (g + w)
    unfolding gap_from
    count_on e not-3 not-2 =
        record {
          rest = p.rest ∙ rw (add-one, drop-cons xs k 0, ← at, e, ne_eqb r 3 not-3, ne_eqb r 2 not-2);
          small = omega (arith, p.small, weight_most r);
        }

  pub count_end : length xs ≤ k → gap l xs i ≡ 0
  unfolding gap_from
  count_end h = p.rest ∙ rw (drop_of_length-le xs h)

-- The array of f, filled up to i.
module _ (f : ℕ → ℕ) where
  pub fill_start : replicate 256 0 ≡ filled f 0
  unfolding tab
  fill_start = refl

  pub fill_next : (i x : ℕ) (all : List ℕ) → i < 256 → all ≡ filled f i → x ≡ f i → set all i x ≡ filled f (i + 1)
  fill_next i x all h e g =
      let z : 256 - i ≡ suc (256 - (i + 1)) = omega arith in
      let m : tab (i + 1) f ≡ tab i f ++ f i ∷ [] = rw add-one (tab_more i f f (λ k l. refl)) in
      rw (e, z, set_at (tab i f) 0 (replicate (256 - (i + 1)) 0) x i (length_tab i f), m, append_assoc, g)

  pub fill_end : (i n : ℕ) (all : List ℕ) → all ≡ filled f i → i ≡ n → all ≡ filled f n
  fill_end i n all e h = e ∙ ap (filled f) h
