-- The key that is found by trying all chains is that of the best chain as the rule says it, and the answer names that chain.
use Rattle.std.proofs.Common.{Result, Ok}
use mathlib.Core.Path.{◌≡◌, refl, sym, ◌∙◌, fun_ext}
use mathlib.Core.Bool.{Bool, false}
use mathlib.Core.List.{List}
use mathlib.Core.Logic.{inl, inr}
use Prim.Native.Nat.{ℕ, zero, suc, ◌*◌, ◌≤◌, ◌<◌}
use native.Mathlib.Omega.{arith}
use borrow.Author.Tests.{le-ltb}
use lib.Dec.{T, not_T, leb→le}
use lib.IntN.{ℤ, pos, negsuc, nat_abs}
use lib.ListN.{length, get_or, get_or-eq_default}
use lib.Signed.{◌≤ℤ◌}
use Rattle.tree.specs.Nested.{Nested}
use Rattle.tree.specs.Reading.{leaves_of}
use Rattle.tree.specs.declared.Tree.{Tree}
use Rattle.tree.proofs.Leaves.{lt_or_le}
use Rattle.tree.proofs.Trees.{tree_nested}
use Rattle.seed.specs.Seed.{Pattern}
use Rattle.seed.specs.AreaList.{chainable}
use Rattle.seed.proofs.Chain.{chain_sym}
use Rattle.seed.proofs.ChainTest.{tells_chainable}
use Rattle.optimum.specs.Chain.{Seeds, total_of, total, IsBest}
use Rattle.optimum.specs.Key.{Key, seed_key, in_mask}
use Rattle.optimum.proofs.Booleans.{T-eq, T-neq}
use Rattle.optimum.proofs.Bounds.{total_most}
use Rattle.optimum.proofs.BestChain.{Listed, by_number, best_is_best, best_total}
use Rattle.seed.specs.Tab.{tab}
use Rattle.seed.proofs.Tabs.{length_tab, get_d_tab}
use Rattle.table.specs.Rows.{Row, row_in}
use Rattle.table.specs.Table.{rows_of, Kept}
use Rattle.table.specs.declared.Table.{Table}
use Rattle.table.proofs.Tables.{rows_length}
use Rattle.table.proofs.Ranges.{range_most}
use Rattle.best.specs.Best.{key_of, best_of_key, scratch_needed, best_of, seeds_of, named, NamesBest, Answered}
use Rattle.best.specs.declared.Best.{Best}
use Rattle.answer.specs.declared.Refusal.{Refusal}
use Rattle.masks.proofs.Bits.{told_yes}

-- ---- the list of 64 answers

tab_is : (f : ℕ → Bool) (n : ℕ) → ((i : ℕ) → T (f i) → i < n) → (λ i. get_or (tab n f) i false) ≡ f
tab_is f n h = fun_ext (λ i. elim (lt_or_le i n) [ inl b ↦ get_d_tab n f i false b | inr b ↦ beyond i b ])
  where
    beyond : (i : ℕ) → n ≤ i → get_or (tab n f) i false ≡ f i
    beyond i b = get_or-eq_default (tab n f) false (omega (arith, length_tab n f)) ∙ sym (T-neq (not_T (f i) (λ t. omega (arith, h i t))))

-- ---- a best total is not below 0

none_total : (score : ℕ → ℤ) (n : ℕ) → total_of score (λ i. false) n ≡ pos 0
unfolding total_of
none_total score zero = refl
none_total score (suc n) = none_total score n

natural : (z : ℤ) → pos 0 ≤ℤ z → pos (nat_abs z) ≡ z
natural (pos n) h = refl
natural (negsuc n) h = absurd h.le

best_natural : (S : Seeds) (f : ℕ → Bool) → IsBest S f → pos (nat_abs (total S f)) ≡ total S f
best_natural S f h =
    natural (total S f)
    (rw (none_total S.score S.count) at
    (h.greatest (λ i. false) (record { given = λ i t. absurd t; present = λ i t. absurd t; chainable = λ i j t. absurd t })))

-- ---- the theorem

module _ {Q T : List ℕ} (tree_q : Nested Q) (tree_t : Nested T) (rows : List Row) (seeds : (i : ℕ) → i < length rows → Pattern Q T (row_in rows i).pairs) where
  abbrev S : Seeds
  S = seeds_of Q T rows

  -- Two seeds are chainable by the test.
  abbrev test : ℕ → ℕ → Bool
  test i j = chainable Q T (row_in rows i).pairs (row_in rows j).pairs

  -- The seeds by their numbers.
  pub numbered : Listed S (λ i. i) test (seed_key (λ i. (row_in rows i).score)) (λ i. (row_in rows i).present) (length rows)
  numbered =
      by_number S test
      (λ i j. chain_sym (row_in rows i).pairs (row_in rows j).pairs)
      (λ i j l b t. (tells_chainable tree_q tree_t (row_in rows i).pairs (row_in rows j).pairs (seeds i (omega arith)) (seeds j b)).0 (T-eq t))
      (λ i j l b c. told_yes refl ((tells_chainable tree_q tree_t (row_in rows i).pairs (row_in rows j).pairs (seeds i (omega arith)) (seeds j b)).1 c))

  abbrev key : Key
  key = key_of Q T rows

  best_set : IsBest S (in_mask key.mask)
  unfolding key_of
  best_set = best_is_best S (λ i. i) test (seed_key (λ i. (row_in rows i).score)) (λ i. (row_in rows i).present) (length rows) numbered

  set_total : key.total ≡ total S (in_mask key.mask)
  unfolding key_of
  set_total = best_total S (λ i. i) test (seed_key (λ i. (row_in rows i).score)) (λ i. (row_in rows i).present) (length rows) numbered

  -- The best chain: the answer names the chain that is best of all, with exactly its total.
  pub best_chain_lem : length rows ≤ 64 → NamesBest S (best_of_key key)
  best_chain_lem few =
      let e = tab_is (in_mask key.mask) 64 (λ i t. omega (arith, best_set.chain.given i t)) in
      record { chain_best = rw e best_set; total_is = rw (e, set_total) (best_natural S (in_mask key.mask) best_set) }

-- The call on a long enough scratch is accepted, and names the best chain of the table's seeds.
pub call_best : (q t : Tree) (table : Table) (xs ys : List ℕ) (r : Result Best Refusal) → Kept q t table → Answered q t table xs ys r → scratch_needed ≤ length xs → (best : Best) × (r ≡ Ok best) × NamesBest (seeds_of (leaves_of q) (leaves_of t) (rows_of table)) best
unfolding best_of
call_best q t table xs ys r h a room = (
  best_of_key (key_of (leaves_of q) (leaves_of t) (rows_of table)),
  a.answer ∙ rw (le-ltb (length xs) scratch_needed room),
  best_chain_lem (tree_nested q h.is_q) (tree_nested t h.is_t) (rows_of table) (λ i b. (h.each i b).seed.pattern) (omega (arith, rows_length table, h.laid.few)),
)

-- ---- how much a best total is at most

-- 64 seeds of the greatest score.
pub key_most : (q t : Tree) (table : Table) → Kept q t table → nat_abs (key_of (leaves_of q) (leaves_of t) (rows_of table)).total ≤ 64000000
key_most q t table h =
    let rows = rows_of table in
    let few : length rows ≤ 64 = omega (arith, rows_length table, h.laid.few) in
    let best = best_chain_lem (tree_nested q h.is_q) (tree_nested t h.is_t) rows (λ i b. (h.each i b).seed.pattern) few in
    let most = total_most (λ i. (row_in rows i).score) 1000000 (named (best_of_key (key_of (leaves_of q) (leaves_of t) rows))) (length rows) (λ i b. range_most (row_in rows i).score (h.each i b).ranged) in
    let bound : pos (nat_abs (key_of (leaves_of q) (leaves_of t) rows).total) ≤ℤ pos (length rows * 1000000) = rw best.total_is most in
    omega (arith, leb→le (nat_abs (key_of (leaves_of q) (leaves_of t) rows).total) (length rows * 1000000) bound.le)
