-- The table on the scratch, filled row by row, gives the best key.
use mathlib.Core.Path.{◌≡◌, refl, sym, ap, ap₂, ◌∙◌, fun_ext}
use mathlib.Core.Bool.{true, false, ◌&&◌}
use mathlib.Core.Logic.{inl, inr}
use mathlib.Core.List.{List}
use Prim.Native.Nat.{ℕ, ◌+◌, ◌^◌, ◌≤◌, ◌<◌}
use native.Mathlib.Numerals.{add-one}
use native.Mathlib.Omega.{arith}
use lib.Bits.{bit_and}
use lib.Dec.{T, not_T}
use lib.IntN.{ℤ}
use lib.ListN.{length, get_or, set}
use Rattle.tree.proofs.Leaves.{lt_or_le}
use Rattle.optimum.specs.Key.{Key, empty, ◌⊕◌, better, in_mask, seed_key}
use Rattle.optimum.specs.inner.Table.{Items, best_among, items_chainable, with_under, max_below, KeysUnder, KeyRow, stored}
use Rattle.optimum.proofs.Booleans.{T-neq, and_l, and_r}
use Rattle.optimum.proofs.Keys.{better_l, better_right}
use Rattle.optimum.proofs.Maxima.{max_cong}
use Rattle.optimum.proofs.StoredKeys.{stored_add}
use Rattle.optimum.proofs.Chains.{best_cong}
use Rattle.optimum.proofs.Split.{Down, down_under}
use Rattle.optimum.proofs.Recurrence.{row_next, row_rises, row_best, filled_next}
use Rattle.optimum.proofs.Bounds.{entry_small, best_small, under_small}
use Rattle.standing.specs.Standing.{number_at}
use Rattle.best.specs.Best.{scratch_needed}
use Rattle.best.specs.inner.Scratch.{key_at, item_bank, row_bank, marked, score_by, items_of, RowRises, entry_of, EntryRoom, RowRoom, RowFilled, Posed, ItemsFilled}
use Rattle.standing.specs.declared.Standing.{Standing}
use Rattle.masks.proofs.Bits.{common, all_ones}
use Rattle.best.proofs.Banks.{put_long, put_beside, put_here, put_before, max_start, max_past, max_turn}

both : (lefts : List ℕ) (row k : ℕ) → (λ j. in_mask row j && marked lefts j k) ≡ in_mask (bit_and row (get_or lefts k 0))
both lefts row k = fun_ext (λ j. sym (common row (get_or lefts k 0) j))

-- ---- one row

pub row_start : (xs lefts : List ℕ) (row : ℕ) → RowFilled xs lefts row 0 xs (stored 0 0)
unfolding KeyRow
row_start xs lefts row = record { long = refl; row_is = λ k b. absurd (omega arith); kept = λ i b. refl; best_is = max_start _ _ }

module _ (xs lefts : List ℕ) (row n : ℕ) (h : RowRoom xs lefts row n) (k : ℕ) (b : k < n) (ys : List ℕ) {best : Key} (f : RowFilled xs lefts row k ys best) where
  -- The entry by the row so far.
  entry_is : entry_of ys lefts row k ≡ key_at xs item_bank k ⊕ max_below (λ j. in_mask row j && marked lefts j k) (key_at ys row_bank) k
  unfolding entry_of
  entry_is = ap (λ x. x ⊕ max_below (λ j. in_mask row j && marked lefts j k) (key_at ys row_bank) k) (ap₂ stored (f.kept (item_bank + k) (omega (arith, h.few))) (f.kept (item_bank + 64 + k) (omega (arith, h.few))))

  -- What is left of item k in the row.
  in_both : (j : ℕ) → T (in_mask (bit_and row (get_or lefts k 0)) j) → T (in_mask row j && marked lefts j k)
  in_both j t = rw (common row (get_or lefts k 0) j) at t

  in_row : (j : ℕ) → T (in_mask (bit_and row (get_or lefts k 0)) j) → T (in_mask row j)
  in_row j t = and_l (in_mask row j) (marked lefts j k) (in_both j t)

  in_left : (j : ℕ) → T (in_mask (bit_and row (get_or lefts k 0)) j) → j < k
  in_left j t = h.before j k b (and_r (in_mask row j) (marked lefts j k) (in_both j t))

  rising : RowRises ys lefts (bit_and row (get_or lefts k 0))
  rising =
      record {
        long = omega (arith, h.long, f.long);
        reach = λ j t. omega (arith, in_left j t, h.lefts_long);
        rises = λ i j s t l.
            better_right
            (row_rises (marked lefts) (in_mask row) (key_at xs item_bank) (key_at ys row_bank) k f.row_is i j (h.before i j (omega (arith, in_left j t)) l) (in_left j t)
            (rw (h.clipped j (omega (arith, in_left j t))) at (better_l empty (key_at xs item_bank j))) (in_row i s) (in_row j t) l);
      }

  pub row_room : T (in_mask row k) → EntryRoom ys lefts row k
  row_room on =
      record {
        few = omega (arith, h.few);
        inside = omega (arith, h.lefts_long);
        before = λ j. h.before j k b;
        rising = rising;
        small = λ u m e. h.small (key_at ys row_bank) k b on f.row_is u m (sym entry_is ∙ e);
      }

  -- One entry more.
  pub row_turn : in_mask row k ≡ true → (zs : List ℕ) (t m : ℕ) {best' : Key} → stored t m ≡ entry_of ys lefts row k → zs ≡ set (set ys (row_bank + k) t) (row_bank + 64 + k) m → best' ≡ better best (stored t m) → RowFilled xs lefts row (k + 1) zs best'
  row_turn on zs t m e g q =
      record {
        long = put_long ys zs row_bank k t m g ∙ f.long;
        row_is =
            rw (add-one k)
            (row_next (marked lefts) (in_mask row) (key_at xs item_bank) (key_at ys row_bank) (key_at zs row_bank) k f.row_is
            (put_before ys zs row_bank k t m g few room) (λ on. put_here ys zs row_bank k t m g few room ∙ e ∙ entry_is));
        kept = λ i a. put_beside ys zs row_bank k t m g i (λ x. omega arith) (λ x. omega arith) ∙ f.kept i a;
        best_is =
            max_turn (in_mask row) (key_at zs row_bank) k k (omega arith) (λ j a c. absurd (omega arith)) on
            (f.best_is ∙ max_cong (in_mask row) (key_at ys row_bank) (key_at zs row_bank) k (λ j a. sym (put_before ys zs row_bank k t m g few room j a)))
            (sym (put_here ys zs row_bank k t m g few room)) q;
      }
    where
      few : k < 64
      few = omega (arith, h.few)

      room : row_bank + 128 ≤ length ys
      room = omega (arith, h.long, f.long)

-- Items that the mask has not change nothing.
pub row_past : (xs lefts : List ℕ) (row k n : ℕ) (ys : List ℕ) {best : Key} → RowFilled xs lefts row k ys best → k ≤ n → ((j : ℕ) → k ≤ j → j < n → in_mask row j ≡ false) → RowFilled xs lefts row n ys best
unfolding KeyRow
row_past xs lefts row k n ys f low none =
    record {
      long = f.long;
      row_is = λ j b t. elim (lt_or_le j k) [ inl g ↦ f.row_is j g t | inr g ↦ absurd (rw (none j g b) at t) ];
      kept = f.kept;
      best_is = f.best_is ∙ max_past (in_mask row) (key_at ys row_bank) k n low none;
    }

-- An entry that is small is added with no overflow.
pub entry_best : (xs lefts : List ℕ) (row k : ℕ) → EntryRoom xs lefts row k → max_below (in_mask (bit_and row (get_or lefts k 0))) (key_at xs row_bank) 64 ≡ max_below (λ j. in_mask row j && marked lefts j k) (key_at xs row_bank) k
entry_best xs lefts row k h =
    sym (max_past (in_mask (bit_and row (get_or lefts k 0))) (key_at xs row_bank) k 64 (omega (arith, h.few)) past)
    ∙ ap (λ p. max_below p (key_at xs row_bank) k) (sym (both lefts row k))
  where
    past : (j : ℕ) → k ≤ j → j < 64 → in_mask (bit_and row (get_or lefts k 0)) j ≡ false
    past j a b = common row (get_or lefts k 0) j ∙ T-neq (not_T (in_mask row j && marked lefts j k) (λ t. omega (arith, h.before j (and_r (in_mask row j) (marked lefts j k) t))))

module _ (xs lefts : List ℕ) (row k : ℕ) (h : EntryRoom xs lefts row k) {t m t' m' : ℕ} (e : stored t m ≡ key_at xs item_bank k) (f : stored t' m' ≡ max_below (in_mask (bit_and row (get_or lefts k 0))) (key_at xs row_bank) 64) where
  sum_is : stored t m ⊕ stored t' m' ≡ entry_of xs lefts row k
  unfolding entry_of
  sum_is = ap₂ ◌⊕◌ e (f ∙ entry_best xs lefts row k h)

  pub entry_room : (t + t' < 2 ^ 64) × (m + m' < 2 ^ 64)
  entry_room = let s = h.small (t + t') (m + m') (sym sum_is ∙ stored_add t m t' m') in (omega (arith, s.total), s.mask)

  pub entry_joined : {r : Key} → r ≡ stored t m ⊕ stored t' m' → r ≡ entry_of xs lefts row k
  entry_joined g = g ∙ sum_is

-- ---- the table

module _ (s : Standing) (scores : List ℤ) (h : Posed s scores) where
  abbrev S : Items
  S = items_of s scores

  abbrev lefts : List ℕ
  lefts = s.lefts

  abbrev unders : List ℕ
  unders = s.unders

  abbrev n : ℕ
  n = s.count

  -- A row over the first y items, of those in a mask that has with an item all under it.
  module _ (row : ℕ) (dp : Down S (in_mask row) n) (y : ℕ) (b : y ≤ n) (xs : List ℕ) (f : KeysUnder S (key_at xs item_bank) y) where
    room : scratch_needed ≤ length xs → RowRoom xs lefts row y
    unfolding KeysUnder
    room long =
        record {
          few = omega (arith, h.limited.items);
          lefts_long = omega (arith, h.lefts_long);
          long = long;
          before = λ j k a. h.before j k (omega arith);
          clipped = λ k a. rw (f k a) (better_right (better_l empty (with_under S k)));
          small = λ d k a on r t m. entry_small S n 64 (score_by scores) (number_at s.numbers) h.limited h.laws (in_mask row) dp (key_at xs item_bank) d y k b a on f r t m;
        }

    top : (ys : List ℕ) {best : Key} → RowFilled xs lefts row y ys best → best ≡ best_among S (in_mask row) y
    top ys g = g.best_is ∙ row_best S n h.laws (in_mask row) dp (key_at xs item_bank) (key_at ys row_bank) y b f g.row_is

  pub items_start : (xs : List ℕ) → ItemsFilled S xs 0 xs
  unfolding KeysUnder
  items_start xs = record { long = refl; filled = λ y b. absurd (omega arith) }

  module _ (xs₀ : List ℕ) (long : scratch_needed ≤ length xs₀) where
    -- The next item, y, with the row of those under it.
    module _ (y : ℕ) (b : y < n) (xs : List ℕ) (f : ItemsFilled S xs₀ y xs) where
      pub item_room : RowRoom xs lefts (get_or unders y 0) y
      item_room = room (get_or unders y 0) (down_under S n h.laws y b) y (omega arith) xs f.filled (omega (arith, f.long))

      module _ (ys : List ℕ) (t m : ℕ) (g : RowFilled xs lefts (get_or unders y 0) y ys (stored t m)) where
        under_is : best_among S (λ x. S.under x y) y ≡ stored t m
        under_is = sym (top (get_or unders y 0) (down_under S n h.laws y b) y (omega arith) xs f.filled ys g)

        pub item_small : (t ≤ 64000000) × (2 ^ number_at s.numbers y + m < 2 ^ 64)
        item_small = (
          (best_small S n 64 (score_by scores) (number_at s.numbers) h.limited (λ x. S.under x y) y (omega arith) t m under_is).total,
          under_small S n 64 (score_by scores) (number_at s.numbers) h.limited y b t m under_is,
        )

        -- One item more.
        pub item_turn : (zs : List ℕ) (t' m' : ℕ) → stored t' m' ≡ better empty (seed_key (score_by scores) (number_at s.numbers y) ⊕ stored t m) → zs ≡ set (set ys (item_bank + y) t') (item_bank + 64 + y) m' → ItemsFilled S xs₀ (y + 1) zs
        item_turn zs t' m' c q =
            record {
              long = put_long ys zs item_bank y t' m' q ∙ g.long ∙ f.long;
              filled =
                  rw (add-one y)
                  (filled_next S n h.laws (key_at xs item_bank) (key_at zs item_bank) (key_at ys row_bank) y b f.filled g.row_is
                  (λ k a. put_before ys zs item_bank y t' m' q few wide k a ∙ ap₂ stored (g.kept (item_bank + k) (omega (arith, few))) (g.kept (item_bank + 64 + k) (omega (arith, few))))
                  (put_here ys zs item_bank y t' m' q few wide ∙ c ∙ ap (λ x. better empty (S.worth y ⊕ x)) g.best_is));
            }
          where
            few : y < 64
            few = omega (arith, h.limited.items)

            wide : item_bank + 128 ≤ length ys
            wide = omega (arith, g.long, f.long)

    -- The row of all items.
    module _ (xs : List ℕ) (f : ItemsFilled S xs₀ n xs) where
      abbrev all : ℕ
      all = 18446744073709551615

      has_all : (k : ℕ) → k < n → in_mask all k ≡ true
      has_all k b = all_ones k (omega (arith, h.limited.items))

      all_down : Down S (in_mask all) n
      all_down x y a b t r = rw (has_all x a) tt

      pub all_room : RowRoom xs lefts all n
      all_room = room all all_down n (omega arith) xs f.filled (omega (arith, f.long))

      pub all_best : (ys : List ℕ) {best : Key} → RowFilled xs lefts all n ys best → best ≡ best_among S (λ x. true) n
      all_best ys g = top all all_down n (omega arith) xs f.filled ys g ∙ best_cong (items_chainable S) S.worth (in_mask all) (λ x. true) n has_all
