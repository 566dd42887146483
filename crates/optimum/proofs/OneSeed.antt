-- How far the total of the best chain can move when one seed gets another score or another presence.
use mathlib.Core.Path.{◌≡◌, refl, sym, ap, subst, ◌∙◌}
use mathlib.Core.Bool.{Bool, true, false, not, cond, ◌&&◌, ◌||◌}
use Prim.Native.Nat.{ℕ, zero, suc, ◌<◌}
use lib.IntN.{ℤ, pos, ◌+ℤ◌, ◌-ℤ◌}
use native.Mathlib.Omega.{arith}
use lib.Dec.{T, T_not, not_T, eqb, eqb→eq}
use lib.Signed.{◌≤ℤ◌}
use Rattle.std.proofs.lemmas.Bool.{cases_Bool, ne_eqb, eq-eqb, cond-true, cond-false}
use mathlib.Core.Logic.{inl, inr}
use Rattle.std.proofs.lemmas.Int.{ints, clamps}
use mir.Facts.{eqb_no}
use Rattle.std.specs.Int.{int_max}
use Rattle.optimum.specs.Chain.{Seeds, Chain, total_of, total, IsBest}
use Rattle.optimum.specs.Key.{Key, ◌⊕◌, seed_key}
use Rattle.optimum.specs.OneSeed.{seeds_with_score, seeds_with_presence}
use Rattle.optimum.proofs.Booleans.{Is, yes, no, is, T-ext, and_i, and_l, and_r, or_l, or_r, or_e}
use Rattle.optimum.proofs.Chains.{value_cong}
use Rattle.optimum.proofs.Numbers.{value_total, value_insert}

-- ---- one set

-- A total reads the scores of its set only.
total_cong : (a b : ℕ → ℤ) (g : ℕ → Bool) (n : ℕ) → ((i : ℕ) → T (g i) → a i ≡ b i) → total_of a g n ≡ total_of b g n
unfolding total_of
total_cong a b g zero h = refl
total_cong a b g (suc n) h = let e = total_cong a b g n h in elim (cases_Bool (g n)) [ inl y ↦ rw (y, h n (rw y tt), e) | inr z ↦ rw (z, e) ]

-- The set without the number k.
abbrev all_but : (ℕ → Bool) → ℕ → ℕ → Bool
all_but g k i = not (eqb k i) && g i

all_but_other : (g : ℕ → Bool) (k i : ℕ) → T (all_but g k i) → k ≡ i → ⊥
all_but_other g k i t = eqb_no (and_l (not (eqb k i)) (g i) t)

-- The score of a number in the set stands apart from the total of the others.
total_split : (score : ℕ → ℤ) (g : ℕ → Bool) (k n : ℕ) → T (g k) → k < n → total_of score g n ≡ score k +ℤ total_of score (all_but g k) n
unfolding ◌⊕◌
total_split score g k n t b =
    sym (value_total score g n)
    ∙ ap (λ (x : Key). x.total) (value_cong (seed_key score) g (λ i. eqb k i || all_but g k i) n (λ i l. same i) ∙ value_insert (seed_key score) (all_but g k) k gone n b)
    ∙ ap (λ (x : ℤ). score k +ℤ x) (value_total score (all_but g k) n)
  where
    gone : T (not (all_but g k k))
    gone = not_T (all_but g k k) (λ s. all_but_other g k k s refl)

    back : (i : ℕ) → T (eqb k i || all_but g k i) → T (g i)
    back i = or_e (eqb k i) (all_but g k i) (λ e. subst (λ x. T (g x)) (eqb→eq k i e) t) (and_r (not (eqb k i)) (g i))

    into : (i : ℕ) → Is (eqb k i) → T (g i) → T (eqb k i || all_but g k i)
    into i (yes e) s = or_l (eqb k i) (all_but g k i) e
    into i (no e) s = or_r (eqb k i) (all_but g k i) (and_i (not (eqb k i)) (g i) e s)

    same : (i : ℕ) → g i ≡ (eqb k i || all_but g k i)
    same i = T-ext (g i) (eqb k i || all_but g k i) (into i (is (eqb k i))) (back i)

-- ---- another score

module _ (S : Seeds) (k : ℕ) (score : ℕ → ℤ) (others : (i : ℕ) → (k ≡ i → ⊥) → score i ≡ S.score i) where
  abbrev scored : Seeds
  scored = record { count = S.count; present = S.present; score = score; Chainable = S.Chainable }

  from_scored : {g : ℕ → Bool} → Chain scored g → Chain S g
  from_scored c = record { given = c.given; present = c.present; chainable = c.chainable }

  to_scored : {g : ℕ → Bool} → Chain S g → Chain scored g
  to_scored c = record { given = c.given; present = c.present; chainable = c.chainable }

  -- A set without k has the same total.
  total_same : (g : ℕ → Bool) → T (not (g k)) → total scored g ≡ total S g
  total_same g t = total_cong score S.score g S.count (λ i s. others i (λ e. T_not (g k) t (subst (λ x. T (g x)) (sym e) s)))

  -- If k is withdrawn, no chain has it, and the best chains have the same total.
  module _ {f f' : ℕ → Bool} (a : IsBest S f) (b : IsBest scored f') (gone : S.present k ≡ false) where
    lacks_k : {g : ℕ → Bool} → Chain S g → T (not (g k))
    lacks_k {g} c = not_T (g k) (λ t. subst T gone (c.present k t))

    best_same : total scored f' ≡ total S f
    best_same =
        omega (arith, ints, total_same f (lacks_k a.chain), total_same f' (lacks_k (from_scored b.chain)), a.greatest f' (from_scored b.chain), b.greatest f (to_scored a.chain))

  module _ (d : ℕ) (here : score k ≡ S.score k +ℤ pos d) where
    -- A set with k has d more.
    total_raised : (g : ℕ → Bool) → T (g k) → k < S.count → total scored g ≡ total S g +ℤ pos d
    total_raised g t b =
        omega (arith, ints, total_split score g k S.count t b, total_split S.score g k S.count t b, total_cong score S.score (all_but g k) S.count (λ i s. others i (all_but_other g k i s)))

    total_between : (g : ℕ → Bool) → Chain S g → (total S g ≤ℤ total scored g) × (total scored g ≤ℤ (total S g +ℤ pos d))
    total_between g c = go (is (g k))
      where
        go : Is (g k) → (total S g ≤ℤ total scored g) × (total scored g ≤ℤ (total S g +ℤ pos d))
        go (yes t) = let e = total_raised g t (c.given k t) in (omega (arith, ints), omega (arith, ints))
        go (no t) = let e = total_same g t in (omega (arith, ints), omega (arith, ints))

    -- So it is with the best chains.
    best_between : {f f' : ℕ → Bool} → IsBest S f → IsBest scored f' → (total S f ≤ℤ total scored f') × (total scored f' ≤ℤ (total S f +ℤ pos d))
    best_between {f} {f'} a b =
        let c = from_scored b.chain in (
          omega (arith, ints, (total_between f a.chain).0, b.greatest f (to_scored a.chain)),
          omega (arith, ints, (total_between f' c).1, a.greatest f' c),
        )

-- ---- another presence

-- The best chain of the seeds of which k is withdrawn.
module _ (S : Seeds) (k : ℕ) (present : ℕ → Bool) (others : (i : ℕ) → (k ≡ i → ⊥) → present i ≡ S.present i) (gone : present k ≡ false) where
  abbrev lacking : Seeds
  lacking = record { count = S.count; present = present; score = S.score; Chainable = S.Chainable }

  from_lacking : {g : ℕ → Bool} → Chain lacking g → Chain S g
  from_lacking {g} c = record { given = c.given; present = λ i t. subst T (others i (other i t)) (c.present i t); chainable = c.chainable }
    where
      other : (i : ℕ) → T (g i) → k ≡ i → ⊥
      other i t e = subst T gone (subst (λ x. T (present x)) (sym e) (c.present i t))

  to_lacking : {g : ℕ → Bool} → Chain S g → ((i : ℕ) → T (g i) → k ≡ i → ⊥) → Chain lacking g
  to_lacking c other = record { given = c.given; present = λ i t. subst T (sym (others i (other i t))) (c.present i t); chainable = c.chainable }

  -- A chain stays one without k.
  shortened : {g : ℕ → Bool} → Chain S g → Chain lacking (all_but g k)
  shortened {g} c =
      let in_g : (i : ℕ) → T (all_but g k i) → T (g i) = λ i. and_r (not (eqb k i)) (g i) in
      to_lacking
      (record { given = λ i t. c.given i (in_g i t); present = λ i t. c.present i (in_g i t); chainable = λ i j s t. c.chainable i j (in_g i s) (in_g j t) })
      (all_but_other g k)

  best_without : {f f' : ℕ → Bool} → IsBest S f → IsBest lacking f' → (total lacking f' ≤ℤ total S f) × (total S f ≤ℤ (total lacking f' +ℤ int_max (S.score k) (pos 0)))
  best_without {f} {f'} a b = (a.greatest f' (from_lacking b.chain), go (is (f k)))
    where
      go : Is (f k) → total S f ≤ℤ (total lacking f' +ℤ int_max (S.score k) (pos 0))
      go (yes t) = omega (arith, ints, clamps, total_split S.score f k S.count t (a.chain.given k t), b.greatest (all_but f k) (shortened a.chain))
      go (no t) = omega (arith, ints, clamps, b.greatest f (to_lacking a.chain (λ i s e. T_not (f k) t (subst (λ x. T (f x)) (sym e) s))))

-- ---- how far the best total moves

at_k : {A : Type 0} (k : ℕ) (x y : A) → cond (eqb k k) x y ≡ x
at_k k x y = cond-true (eqb k k) x y (eq-eqb k k refl)

off_k : {A : Type 0} (k i : ℕ) (x y : A) → (k ≡ i → ⊥) → cond (eqb k i) x y ≡ y
off_k k i x y ne = cond-false (eqb k i) x y (ne_eqb k i ne)

-- The best chains f of the seeds S, and f' of the seeds S', which are S with another score or another presence for number k.
module _ {S S' : Seeds} {f f' : ℕ → Bool} (a : IsBest S f) (b : IsBest S' f') (k : ℕ) where
  -- Raising the score by d raises the total by no less than 0 and no more than d.
  pub raised : (d : ℕ) → S' ≡ seeds_with_score S k (S.score k +ℤ pos d) → (total S f ≤ℤ total S' f') × (total S' f' ≤ℤ (total S f +ℤ pos d))
  raised d e =
      subst (λ (X : Seeds). IsBest X f' → (total S f ≤ℤ total X f') × (total X f' ≤ℤ (total S f +ℤ pos d))) (sym e)
      (λ c. best_between S k _ (λ i. off_k k i _ _) d (at_k k _ _) a c) b

  -- Lowering it by d lowers the total by no more than d and never raises it.
  pub lowered : (d : ℕ) → S' ≡ seeds_with_score S k (S.score k -ℤ pos d) → ((total S f -ℤ pos d) ≤ℤ total S' f') × (total S' f' ≤ℤ total S f)
  lowered d e = (omega (arith, ints, between.1), between.0)
    where
      between : (total S' f' ≤ℤ total S f) × (total S f ≤ℤ (total S' f' +ℤ pos d))
      between =
          subst (λ (X : Seeds). IsBest X f' → (total X f' ≤ℤ total S f) × (total S f ≤ℤ (total X f' +ℤ pos d))) (sym e)
          (λ c. best_between (seeds_with_score S k (S.score k -ℤ pos d)) k S.score (λ i ne. sym (off_k k i _ _ ne)) d (omega (arith, ints, at_k k (S.score k -ℤ pos d) (S.score k))) c a) b

  -- Any score of a withdrawn seed leaves it.
  pub absent_scored : (z : ℤ) → S' ≡ seeds_with_score S k z → S.present k ≡ false → total S' f' ≡ total S f
  absent_scored z e gone =
      subst (λ (X : Seeds). IsBest X f' → total X f' ≡ total S f) (sym e)
      (λ c. best_same S k _ (λ i. off_k k i _ _) a c gone) b

  -- Withdrawing a seed of score s lowers the total by no more than the greater of s and 0, and never raises it.
  pub withdrawn : S' ≡ seeds_with_presence S k false → ((total S f -ℤ int_max (S.score k) (pos 0)) ≤ℤ total S' f') × (total S' f' ≤ℤ total S f)
  withdrawn e = (omega (arith, ints, between.1), between.0)
    where
      between : (total S' f' ≤ℤ total S f) × (total S f ≤ℤ (total S' f' +ℤ int_max (S.score k) (pos 0)))
      between =
          subst (λ (X : Seeds). IsBest X f' → (total X f' ≤ℤ total S f) × (total S f ≤ℤ (total X f' +ℤ int_max (S.score k) (pos 0)))) (sym e)
          (λ c. best_without S k _ (λ i. off_k k i _ _) (at_k k _ _) a c) b

  -- Bringing it back raises the total by no less than 0 and no more than that.
  pub brought_back : S' ≡ seeds_with_presence S k true → S.present k ≡ false → (total S f ≤ℤ total S' f') × (total S' f' ≤ℤ (total S f +ℤ int_max (S.score k) (pos 0)))
  brought_back e gone =
      subst (λ (X : Seeds). IsBest X f' → (total S f ≤ℤ total X f') × (total X f' ≤ℤ (total S f +ℤ int_max (S.score k) (pos 0)))) (sym e)
      (λ c. best_without (seeds_with_presence S k true) k S.present (λ i ne. sym (off_k k i _ _ ne)) gone c a) b
