-- The first node that fits, by the search of a list and by its definition.
use Rattle.std.proofs.Common.{◌≡◌, sym, ◌∙◌, List, ℕ, ◌≤◌, length, true, Option, arith}
use Rattle.std.specs.Prelude.{position}
use Rattle.std.specs.List.{position_or_len}
use Rattle.std.specs.Option.{unwrap_or}
use Rattle.std.proofs.lemmas.List.Sums.{fails_before_first, passes_at_first, prefix_len-le-length}
use mathlib.Core.Bool.{false≢true, not}
use mathlib.Core.Logic.{inl, inr}
use borrow.Author.Tests.{lt-ltb, le-ltb}
use Rattle.tree.proofs.Leaves.{lt_or_le}
use Rattle.seed.specs.AreaList.{first_below}
use Rattle.seed.proofs.Below.{first_found, first_none}
use Rattle.area.specs.inner.Boxes.{same_gap, like}
use Rattle.area.proofs.AreaSteps.{like_is}

module _ (x : ℕ) (g : List ℕ) where
  abbrev at : ℕ
  at = position_or_len (same_gap x) g

  passed : (n : ℕ) → n ≤ at → first_below (like x g) n ≡ n
  passed n h = first_none (like x g) (λ i. like x g i ≡ true) (λ i. ((λ e. e), (λ e. e))) n
      (λ i l e. false≢true (sym (fails_before_first (same_gap x) g i 0 (omega arith)) ∙ sym (like_is x g i) ∙ e))

  pub first_or_all : {o : Option ℕ} → o ≡ position (same_gap x) g → unwrap_or o (length g) ≡ first_below (like x g) (length g)
  first_or_all e =
      let most : at ≤ length g = prefix_len-le-length (λ y. not (same_gap x y)) g in
      elim (lt_or_le at (length g)) [
        | inl u ↦ rw (e, lt-ltb at (length g) u) (sym (first_found (like x g) at (length g) (passed at (omega arith)) (like_is x g at ∙ passes_at_first (same_gap x) g 0 u) u))
        | inr u ↦ rw (e, le-ltb at (length g) u) (sym (passed (length g) u))
      ]
