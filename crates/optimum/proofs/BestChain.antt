-- The best key is that of the best chain, as `IsBest` has it, and a best chain is the only one.
use mathlib.Core.Path.{◌≡◌, refl, sym, ap, subst, ◌∙◌, fun_ext}
use mathlib.Core.Bool.{Bool, false, ◌&&◌}
use mathlib.Core.Logic.{◌⊎◌, inl, inr}
use Prim.Native.Nat.{ℕ, ◌≤◌, ◌<◌}
use native.Mathlib.Omega.{arith}
use lib.Dec.{T, T_not, not_T}
use Rattle.std.proofs.lemmas.Bool.{cases_order}
use lib.Signed.{◌≤ℤ◌}
use Rattle.std.proofs.lemmas.Int.{ints}
use Rattle.optimum.specs.Chain.{Seeds, Chain, total, Wins, IsBest}
use Rattle.optimum.specs.Key.{Key, in_mask, seed_key}
use Rattle.optimum.specs.Best.{best}
use Rattle.optimum.specs.inner.Table.{Numbered}
use Rattle.optimum.proofs.Booleans.{T-neq, T-ext, and_i, and_l, and_r}
use Rattle.optimum.proofs.Keys.{◌≼◌, more, same}
use Rattle.optimum.proofs.Chains.{value, value_cong, best_upper, Attained, best_attained}
use Rattle.optimum.proofs.Masks.{mask_tie, mask_bit}
use Rattle.optimum.proofs.Numbers.{value_total, value_mask, named, Position, named_only, named_at, value_named}

-- The positions below n that pass p are the present seeds, in any order, and the test c decides of two, with the lower position first, whether
-- they are chainable.
pub record Listed (S : Seeds) (number : ℕ → ℕ) (c : ℕ → ℕ → Bool) (w : ℕ → Key) (p : ℕ → Bool) (n : ℕ) : Type 0 where
  pub numbered : Numbered S.count S.score number w n
  pub present : (k : ℕ) → k < n → T (p k) → T (S.present (number k))
  pub listed : (i : ℕ) → i < S.count → T (S.present i) → Position number p n i
  pub symmetric : (i j : ℕ) → S.Chainable i j → S.Chainable j i
  pub chainable : (j k : ℕ) → j < k → k < n → T (c j k) → S.Chainable (number j) (number k)
  pub chained : (j k : ℕ) → j < k → k < n → S.Chainable (number j) (number k) → T (c j k)

-- ---- one listing

module _ (S : Seeds) (number : ℕ → ℕ) (c : ℕ → ℕ → Bool) (w : ℕ → Key) (p : ℕ → Bool) (n : ℕ) (L : Listed S number c w p n) where
  abbrev key : Key
  key = best c w p n

  abbrev valued : (ℕ → Bool) → Key
  valued f = value (seed_key S.score) f S.count

  -- No chain has a better key.
  chain_upper : (g : ℕ → Bool) → Chain S g → valued g ≼ key
  chain_upper g h =
      rw (value_cong (seed_key S.score) g (named number at n) S.count (λ i b. same_set i) ∙ value_named S.count S.score number w at n L.numbered)
      (best_upper c w p at n (λ k b. and_l (p k) (g (number k)))
      (λ j k l b s t. L.chained j k l b (h.chainable (number j) (number k) (and_r (p j) (g (number j)) s) (and_r (p k) (g (number k)) t) (L.numbered.distinct j k l b))))
    where
      at : ℕ → Bool
      at k = p k && g (number k)

      into : (i : ℕ) → T (g i) → T (named number at n i)
      into i t =
          let q = L.listed i (h.given i t) (h.present i t) in
          named_at number at n i (record { at = q.at; below = q.below; inside = and_i (p q.at) (g (number q.at)) q.inside (rw q.numbered t); numbered = q.numbered })

      out : (i : ℕ) → T (named number at n i) → T (g i)
      out i t = let q = named_only number at n i t in rw (← q.numbered) (and_r (p q.at) (g (number q.at)) q.inside)

      same_set : (i : ℕ) → g i ≡ named number at n i
      same_set i = T-ext (g i) (named number at n i) (into i) (out i)

  -- The best key is that of a chain.
  attained : Attained c w p n key
  attained = best_attained c w p n

  chosen : ℕ → Bool
  chosen = named number attained.set n

  chosen_key : valued chosen ≡ key
  unfolding chosen
  chosen_key = value_named S.count S.score number w attained.set n L.numbered ∙ attained.worth

  chosen_chain : Chain S chosen
  unfolding chosen
  chosen_chain =
      record {
        given = λ i t. let q = place i t in rw (← q.numbered) (L.numbered.within q.at q.below);
        present = λ i t. let q = place i t in rw (← q.numbered) (L.present q.at q.below (attained.passes q.at q.inside));
        chainable = λ i j s t ne. any_two i j ne (place i s) (place j t);
      }
    where
      place : (i : ℕ) → T (chosen i) → Position number attained.set n i
      place i t = named_only number attained.set n i t

      any_two : (i j : ℕ) → (i ≡ j → ⊥) → Position number attained.set n i → Position number attained.set n j → S.Chainable i j
      any_two i j ne a b = go (cases_order a.at b.at)
        where
          in_order : (c d : ℕ) → c < d → d < n → T (attained.set c) → T (attained.set d) → S.Chainable (number c) (number d)
          in_order c d h l s t = L.chainable c d h l (attained.pairwise c d h s t)

          go : (a.at ≡ b.at) ⊎ ((a.at < b.at) ⊎ (b.at < a.at)) → S.Chainable i j
          go (inl e) = absurd (ne (sym a.numbered ∙ ap number e ∙ b.numbered))
          go (inr (inl h)) = rw (← a.numbered, ← b.numbered) (in_order a.at b.at h b.below a.inside b.inside)
          go (inr (inr h)) = rw (← a.numbered, ← b.numbered) (L.symmetric (number b.at) (number a.at) (in_order b.at a.at h a.below b.inside a.inside))

  chosen_best : IsBest S chosen
  chosen_best = record { chain = chosen_chain; greatest = λ g h. greatest g (above g h); tie = λ g h e. tie g h e (above g h) }
    where
      above : (g : ℕ → Bool) → Chain S g → valued g ≼ valued chosen
      above g h = rw chosen_key (chain_upper g h)

      totals : (g : ℕ → Bool) → (valued g).total ≡ total S g
      totals g = value_total S.score g S.count

      greatest : (g : ℕ → Bool) → valued g ≼ valued chosen → total S g ≤ℤ total S chosen
      greatest g (more l) = omega (arith, ints, totals g, totals chosen)
      greatest g (same e m) = omega (arith, ints, totals g, totals chosen)

      beyond : (g : ℕ → Bool) → Chain S g → (i : ℕ) → S.count ≤ i → g i ≡ false
      beyond g h i b = T-neq (not_T (g i) (λ t. omega (arith, h.given i t)))

      tie : (g : ℕ → Bool) → Chain S g → total S g ≡ total S chosen → valued g ≼ valued chosen → ((i : ℕ) → chosen i ≡ g i) ⊎ Wins chosen g
      tie g h q (more l) = absurd (omega (arith, ints, totals g, totals chosen))
      tie g h q (same e m) =
          mask_tie chosen g S.count (λ i b. beyond chosen chosen_chain i b ∙ sym (beyond g h i b))
          (omega (arith, value_mask S.score chosen S.count, value_mask S.score g S.count))

  in_chosen : in_mask key.mask ≡ chosen
  in_chosen =
      fun_ext (λ i. ap (λ m. in_mask m i) (ap (λ k. k.mask) (sym chosen_key) ∙ value_mask S.score chosen S.count) ∙ mask_bit chosen S.count chosen_chain.given i)

  best_value : key ≡ valued (in_mask key.mask)
  best_value = rw in_chosen (sym chosen_key)

  -- The numbers in the mask of the best key are the best chain.
  pub best_is_best : IsBest S (in_mask key.mask)
  best_is_best = rw in_chosen chosen_best

  -- The total of the best key is that chain's.
  pub best_total : key.total ≡ total S (in_mask key.mask)
  best_total = ap (λ k. k.total) best_value ∙ value_total S.score (in_mask key.mask) S.count

-- ---- the best chain is one

not_both : (f g : ℕ → Bool) → Wins f g → Wins g f → ⊥
not_both f g a b = go (cases_order a.highest b.highest)
  where
    go : (a.highest ≡ b.highest) ⊎ ((a.highest < b.highest) ⊎ (b.highest < a.highest)) → ⊥
    go (inl e) = T_not (f a.highest) a.without (rw e b.other_has)
    go (inr (inl l)) = T_not (g b.highest) b.without (subst T (a.above b.highest l) b.other_has)
    go (inr (inr l)) = T_not (f a.highest) a.without (subst T (b.above a.highest l) a.other_has)

-- Two sets that are best are the same set.
pub best_unique : (S : Seeds) (f g : ℕ → Bool) → IsBest S f → IsBest S g → (i : ℕ) → f i ≡ g i
best_unique S f g a b = go (a.tie g b.chain (sym e)) (b.tie f a.chain e)
  where
    e : total S f ≡ total S g
    e = omega (arith, ints, b.greatest f a.chain, a.greatest g b.chain)

    go : ((i : ℕ) → f i ≡ g i) ⊎ Wins f g → ((i : ℕ) → g i ≡ f i) ⊎ Wins g f → (i : ℕ) → f i ≡ g i
    go (inl h) r i = h i
    go (inr l) (inl h) i = sym (h i)
    go (inr l) (inr r) i = absurd (not_both f g l r)

-- Two listings of the same seeds have the same best key.
pub best_agrees : (S : Seeds) {number number' : ℕ → ℕ} {c c' : ℕ → ℕ → Bool} {w w' : ℕ → Key} {p p' : ℕ → Bool} {n n' : ℕ} → Listed S number c w p n → Listed S number' c' w' p' n' → best c w p n ≡ best c' w' p' n'
best_agrees S {number} {number'} {c} {c'} {w} {w'} {p} {p'} {n} {n'} L L' =
    let m = in_mask (best c w p n).mask in
    let m' = in_mask (best c' w' p' n').mask in
    best_value S number c w p n L
    ∙ value_cong (seed_key S.score) m m' S.count (λ i b. best_unique S m m' (best_is_best S number c w p n L) (best_is_best S number' c' w' p' n' L') i)
    ∙ sym (best_value S number' c' w' p' n' L')

-- The seeds by their numbers are a listing, so that trying all sets of numbers gives the best chain.
pub by_number : (S : Seeds) (c : ℕ → ℕ → Bool) → ((i j : ℕ) → S.Chainable i j → S.Chainable j i) → ((i j : ℕ) → i < j → j < S.count → T (c i j) → S.Chainable i j) → ((i j : ℕ) → i < j → j < S.count → S.Chainable i j → T (c i j)) → Listed S (λ i. i) c (seed_key S.score) S.present S.count
by_number S c symmetric chainable chained =
    record {
      numbered = record { within = λ k b. b; distinct = λ j k l b e. omega arith; worths = λ k b. refl };
      present = λ k b t. t;
      listed = λ i b t. record { at = i; below = b; inside = t; numbered = refl };
      symmetric = symmetric;
      chainable = chainable;
      chained = chained;
    }
