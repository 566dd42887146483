-- The rows of a table with one seed more: those before are as they were, and the new one has its pairs and its score and is present.
use mathlib.Core.Path.{◌≡◌, refl, ap, ◌∙◌}
use mathlib.Core.Bool.{true, false}
use mathlib.Core.List.{List, [], ◌∷◌, ◌++◌}
use mathlib.Core.Logic.{⊎_elim}
use Prim.Native.Nat.{ℕ, ◌+◌, ◌≤◌, ◌<◌}
use native.Mathlib.Numerals.{add-one}
use native.Mathlib.Omega.{arith}
use lib.ListN.{length, get_or, length-set}
use lib.Seq.{get_or-set_same, get_or-set_other, length-paste}
use lib.IntN.{ℤ, pos}
use borrow.Author.Count.{below_more}
use Rattle.tree.proofs.Leaves.{lt_or_le}
use Rattle.seed.specs.Tab.{tab}
use Rattle.seed.specs.Pairs.{pairs_of}
use Rattle.seed.proofs.Tabs.{tab_more}
use Rattle.table.specs.Rows.{Row, new_row}
use Rattle.table.specs.Table.{nodes_of, pairs_at, row_at, rows_of, Laid}
use Rattle.table.specs.declared.Table.{Table}
use Rattle.adding.specs.inner.Appending.{with_seed, SeedRoom}
use Rattle.adding.proofs.Copying.{between_before, between_copied}

module _ (t : Table) (qs ts : List ℕ) (z : ℤ) (g : SeedRoom t qs ts) where
  abbrev next : Table
  next = with_seed t qs ts z

  abbrev bound : Table → ℕ → ℕ
  bound s i = get_or s.bounds i 0

  bound_other : (i : ℕ) → i ≤ t.seeds → bound next i ≡ bound t i
  bound_other i l = get_or-set_other t.bounds (t.seeds + 1) i (t.pairs + length qs) 0 (λ e. omega arith)

  bound_new : bound next (t.seeds + 1) ≡ t.pairs + length qs
  bound_new = get_or-set_same t.bounds (t.seeds + 1) (t.pairs + length qs) 0 (omega (arith, g.laid.room_bounds, g.seed_room))

  fits_q : t.pairs + length qs ≤ length t.qs
  fits_q = omega (arith, g.pair_room, g.laid.room_q)

  fits_t : t.pairs + length ts ≤ length t.ts
  fits_t = omega (arith, g.pair_room, g.even, g.laid.room_t)

  pairs_kept : (i : ℕ) → i < t.seeds → pairs_at next i ≡ pairs_at t i
  unfolding pairs_at nodes_of
  pairs_kept i l =
      let up = g.laid.rising i l in
      let end = g.laid.within (i + 1) (omega arith) in
      rw (
        bound_other i (omega arith),
        bound_other (i + 1) (omega arith),
        between_before t.qs qs t.pairs (length qs) (bound t i) (bound t (i + 1)) (omega (arith, fits_q)) (omega arith) (omega arith) end,
        between_before t.ts ts t.pairs (length ts) (bound t i) (bound t (i + 1)) (omega (arith, fits_t)) (omega arith) (omega arith) end,
      )

  pairs_new : pairs_at next t.seeds ≡ pairs_of qs ts
  unfolding pairs_at nodes_of
  pairs_new =
      rw (
        bound_new,
        bound_other t.seeds (omega arith),
        g.laid.last,
        between_copied t.qs qs t.pairs (length qs) fits_q refl,
        between_copied t.ts ts t.pairs (length qs) (omega (arith, fits_t, g.even)) g.even,
      )

  pub laid_new : Laid next
  laid_new =
      let h = g.laid in
      record {
        few = omega (arith, g.seed_room);
        fit = g.pair_room;
        first = bound_other 0 (omega arith) ∙ h.first;
        last = bound_new;
        rising = below_more (λ (i : ℕ). bound next i < bound next (i + 1)) t.seeds
            (λ i l. rw (bound_other i (omega arith), bound_other (i + 1) (omega arith)) (h.rising i l))
            (rw (bound_new, bound_other t.seeds (omega arith), h.last) (omega (arith, g.some)));
        within = λ i l. within_new i l;
        room_q = length-paste t.qs t.pairs qs (length qs) (omega (arith, fits_q)) (omega arith) ∙ h.room_q;
        room_t = length-paste t.ts t.pairs ts (length ts) (omega (arith, fits_t)) (omega arith) ∙ h.room_t;
        room_bounds = length-set t.bounds (t.seeds + 1) (t.pairs + length qs) ∙ h.room_bounds;
        room_scores = length-set t.scores t.seeds z ∙ h.room_scores;
        room_present = length-set t.present t.seeds true ∙ h.room_present;
      }
    where
      within_new : (i : ℕ) → i ≤ t.seeds + 1 → bound next i ≤ t.pairs + length qs
      within_new i l = ⊎_elim
          (λ k. rw (bound_other i (omega arith)) (omega (arith, g.laid.within i (omega arith))))
          (λ k. let e : i ≡ t.seeds + 1 = omega arith in rw (e, bound_new) (omega arith))
          (lt_or_le i (t.seeds + 1))

  row_kept : (i : ℕ) → i < t.seeds → row_at next i ≡ row_at t i
  unfolding row_at
  row_kept i l =
      rw (
        pairs_kept i l,
        get_or-set_other t.scores t.seeds i z (pos 0) (λ e. omega arith),
        get_or-set_other t.present t.seeds i true false (λ e. omega arith),
      )

  row_new : row_at next t.seeds ≡ new_row (pairs_of qs ts) z
  unfolding row_at
  row_new =
      rw (
        pairs_new,
        get_or-set_same t.scores t.seeds z (pos 0) (omega (arith, g.laid.room_scores, g.seed_room)),
        get_or-set_same t.present t.seeds true false (omega (arith, g.laid.room_present, g.seed_room)),
      )

  pub rows_new : rows_of next ≡ rows_of t ++ new_row (pairs_of qs ts) z ∷ []
  unfolding rows_of
  rows_new =
      ap (λ (n : ℕ). tab n (row_at next)) (add-one t.seeds)
      ∙ tab_more t.seeds (row_at t) (row_at next) row_kept
      ∙ ap (λ (r : Row). tab t.seeds (row_at t) ++ r ∷ []) row_new
