-- The present seeds in order, with the masks of each, are a listing of a table's seeds and keep the laws of the table on the scratch, so that
-- its best key is that of the definition.
use mathlib.Core.Path.{◌≡◌, refl, ap}
use mathlib.Core.Bool.{Bool, true}
use mathlib.Core.List.{List}
use mathlib.Core.Logic.{◌⊎◌, inl, inr}
use Prim.Native.Nat.{ℕ, ◌≤◌, ◌<◌}
use native.Mathlib.Omega.{arith}
use lib.Dec.{T, ltb, lt→ltb}
use lib.IntN.{ℤ, pos}
use lib.ListN.{length}
use lib.Signed.{◌≤ℤ◌}
use Rattle.tree.specs.Nested.{Nested}
use Rattle.tree.proofs.Leaves.{lt_or_le}
use Rattle.seed.specs.Seed.{Pattern, last_pair}
use Rattle.seed.specs.Chain.{Chainable}
use Rattle.seed.specs.AreaList.{left, under}
use Rattle.seed.specs.declared.Pair.{Pair}
use Rattle.seed.proofs.Chain.{chain_sym}
use Rattle.seed.proofs.Laws as seed
use Rattle.table.specs.Rows.{Row, row_in}
use Rattle.optimum.specs.Chain.{Seeds}
use Rattle.optimum.specs.Key.{in_mask, mask_of}
use Rattle.optimum.specs.inner.Table.{Items, Laws, Numbered, items_chainable, best_among}
use Rattle.optimum.proofs.Booleans.{T-eq, and_i, or_l, or_r, or_e}
use Rattle.optimum.proofs.BestChain.{Listed, best_agrees}
use Rattle.standing.specs.Standing.{rank_in, number_at, seed_at, Stood}
use Rattle.best.specs.Best.{key_of, seeds_of}
use Rattle.best.specs.inner.Scratch.{marked, score_by, items_of, Posed}
use Rattle.standing.specs.declared.Standing.{Standing}
use Rattle.masks.proofs.Bits.{mask_has, mask_says, told_yes}
use Rattle.best.proofs.BestChain.{numbered}

-- A mask of the seeds before y has x if x is before y and passes.
mask_told : (f : ℕ → Bool) (x y : ℕ) {m : ℕ} → m ≡ mask_of f y → x < y → f x ≡ true → T (in_mask m x)
mask_told f x y e b h = rw (e, mask_has f y x) (and_i (ltb x y) (f x) (lt→ltb x y b) (told_yes refl h))

module _ {Q T' : List ℕ} (tree_q : Nested Q) (tree_t : Nested T') (rows : List Row) (few : length rows ≤ 64) (seeds : (i : ℕ) → i < length rows → Pattern Q T' (row_in rows i).pairs) (s : Standing) (o : Stood Q T' rows s) where
  -- The seed at place k of the list.
  abbrev at : ℕ → List Pair
  at k = seed_at rows s.numbers k

  laws : seed.Laws s.count (λ k. (last_pair (at k)).q) (λ j k. Chainable Q T' (at j) (at k)) (λ j k. left Q T' (at j) (at k) ≡ true) (λ j k. under Q T' (at j) (at k) ≡ true)
  laws = seed.test_laws tree_q tree_t s.count at (λ k b. seeds (number_at s.numbers k) (o.within k b))

  rises : (j k : ℕ) → j < k → k < s.count → (last_pair (at j)).q ≤ (last_pair (at k)).q
  rises j k a b = omega (arith, o.rising j k a b, o.within j (omega arith), o.within k b)

  before : (x z : ℕ) → x < s.count → z < s.count → (last_pair (at x)).q < (last_pair (at z)).q → x < z
  before x z a b h = elim (lt_or_le x z) [ inl l ↦ l | inr l ↦ absurd (not_after l (lt_or_le z x)) ]
    where
      not_after : z ≤ x → (z < x) ⊎ (x ≤ z) → ⊥
      not_after l (inl k) = omega (arith, rises z x k a)
      not_after l (inr k) = let e : x ≡ z = omega arith in omega (arith, ap (λ (y : ℕ). (last_pair (at y)).q) e)

  left_says : (x y : ℕ) → y < s.count → T (marked s.lefts x y) → (x < y) × (left Q T' (at x) (at y) ≡ true)
  left_says x y b t = mask_says (λ k. left Q T' (at k) (at y)) x y (o.left y b) t

  left_told : (x y : ℕ) → y < s.count → x < y → left Q T' (at x) (at y) ≡ true → T (marked s.lefts x y)
  left_told x y b a h = mask_told (λ k. left Q T' (at k) (at y)) x y (o.left y b) a h

  under_says : (x y : ℕ) → y < s.count → T (marked s.unders x y) → (x < y) × (under Q T' (at x) (at y) ≡ true)
  under_says x y b t = mask_says (λ k. under Q T' (at k) (at y)) x y (o.under y b) t

  under_told : (x y : ℕ) → y < s.count → x < y → under Q T' (at x) (at y) ≡ true → T (marked s.unders x y)
  under_told x y b a h = mask_told (λ k. under Q T' (at k) (at y)) x y (o.under y b) a h

  module _ (scores : List ℤ) where
    abbrev items : Items
    items = items_of s scores

    table_laws : Laws items s.count
    table_laws =
        record {
          left_left = λ x y z a b c k l.
              let m = left_says x y b k in
              let n = left_says y z c l in
              left_told x z c (omega arith) (laws.left_left x y z a b c m.1 n.1);
          under_left = λ x y z a b c k l.
              let m = under_says x y b k in
              let n = left_says y z c l in
              left_told x z c (omega arith) (laws.under_left x y z a b c m.1 n.1);
          left_under = λ x y z a b c k l.
              let h = laws.left_under x y z a b c (left_says x y b k).1 (under_says z y b l).1 in
              left_told x z c (before x z a c (laws.left_before x z a c h)) h;
          under_under = λ x y z a b c k l.
              let m = under_says x y b k in
              let n = under_says y z c l in
              under_told x z c (omega arith) (laws.under_under x y z a b c m.1 n.1);
          left_rises = λ x y a b t. (left_says x y b t).0;
        }

    places : (limit : ℕ) → length rows ≤ limit → (score : ℕ → ℤ) → ((i : ℕ) → i < length rows → score_by scores i ≡ score i) → Numbered limit score (number_at s.numbers) items.worth s.count
    places limit h score same =
        record {
          within = λ k b. omega (arith, o.within k b);
          distinct = λ j k a b e. omega (arith, o.rising j k a b, ap (rank_in rows) e);
          worths = λ k b. rw (same (number_at s.numbers k) (o.within k b));
        }

    pub posed : ((i : ℕ) → i < length rows → score_by scores i ≤ℤ pos 1000000) → Posed s scores
    posed most =
        record {
          lefts_long = omega (arith, o.room_lefts, o.few);
          unders_long = omega (arith, o.room_unders, o.few);
          numbers_long = omega (arith, o.room_numbers, o.few);
          before = λ j k b t. (left_says j k b t).0;
          laws = table_laws;
          limited = record {
            numbered = places 64 few (score_by scores) (λ i b. refl);
            numbers = omega arith;
            items = omega (arith, o.few);
            scores = λ k b. most (number_at s.numbers k) (o.within k b);
          };
        }

    module _ (same : (i : ℕ) → i < length rows → score_by scores i ≡ (row_in rows i).score) where
      abbrev S : Seeds
      S = seeds_of Q T' rows

      listed : Listed S (number_at s.numbers) (items_chainable items) items.worth (λ x. true) s.count
      listed =
          record {
            numbered = places (length rows) (omega arith) (λ i. (row_in rows i).score) same;
            present = λ k b t. rw (o.present k b) tt;
            listed = λ i b t. let p = o.listed i b (T-eq t) in record { at = p.at; below = p.below; inside = tt; numbered = p.holds };
            symmetric = λ i j. chain_sym (row_in rows i).pairs (row_in rows j).pairs;
            chainable = λ j k a b.
                or_e (marked s.lefts j k) (marked s.unders j k)
                (λ t. laws.left j k (omega arith) b (left_says j k b t).1)
                (λ t. laws.under j k (omega arith) b (under_says j k b t).1);
            chained = λ j k a b c.
                elim (laws.cases j k (omega arith) b (apart j k a b c) c) [
                  | inl h ↦ or_l (marked s.lefts j k) (marked s.unders j k) (left_told j k b a h)
                  | inr h ↦ or_r (marked s.lefts j k) (marked s.unders j k) (under_told j k b a h)
                ];
          }
        where
          apart : (j k : ℕ) → j < k → k < s.count → Chainable Q T' (at j) (at k) → (last_pair (at j)).q < (last_pair (at k)).q
          apart j k a b c =
              elim (lt_or_le (last_pair (at j)).q (last_pair (at k)).q) [ inl l ↦ l | inr l ↦ absurd (laws.differ j k (omega arith) b c (omega (arith, rises j k a b))) ]

      -- The best key of the table on the scratch is the definition's.
      pub key_is : best_among items (λ x. true) s.count ≡ key_of Q T' rows
      unfolding key_of
      key_is = best_agrees S listed (numbered tree_q tree_t rows seeds)
