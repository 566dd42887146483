-- Reading the plain form of rows gives these rows, so a deck that is read and written is put in plain form and reads the same again, and
-- what is written of a table reads as its present rows.
use mathlib.Core.Path.{◌≡◌, refl, ap, ap₂, subst, ◌∙◌}
use mathlib.Core.Bool.{Bool, true, false, cond}
use mathlib.Core.List.{List, [], ◌∷◌, flatten}
use Prim.Native.Nat.{ℕ, zero, suc, ◌+◌, ◌*◌, ◌≤◌, ◌<◌}
use native.Mathlib.Omega.{arith}
use lib.ListN.{length, get_or, take, length-map}
use lib.IntN.{pos}
use lib.Signed.{mag}
use borrow.Author.Tests.{le-leb}
use Rattle.std.specs.Prelude.{Result, Ok, Err, IsOkAnd}
use Rattle.answer.specs.declared.Refusal.{Refusal}
use Rattle.answer.proofs.Denied.{denies}
use Rattle.seed.specs.Tab.{tab}
use Rattle.table.specs.Rows.{Row, no_row, present_rows, pairs_of_row}
use Rattle.table.specs.Table.{row_at, rows_of, Laid}
use Rattle.table.specs.declared.Table.{Table}
use Rattle.table.proofs.Tables.{rows_length, row_there, pairs_some}
use Rattle.deck.specs.Deck.{Bytes, number32, SeedRecord, PairRecord, seed_record, seed_count, seed_records, pair_records, record_of, all_in, walks, settled, deck_reading, rows_by, chains_of}
use Rattle.plain.specs.Plain.{deck_of_records, plain_pairs, plain_seeds, plain_of, All, RowInLimits, InLimits, WritesPlain}
use Rattle.deck.specs.Deck.DeckReading.{deck_accepted}
use Rattle.deck.specs.Handed.{deck_read_answer, rows_in, Reads}
use Rattle.deck.specs.Grounds.{Ended}
use Rattle.write.specs.Wrote.{written_of}
use Rattle.write.proofs.Wrote.{wrote_front}
use Rattle.deck.proofs.Numbers.{number32_below, signed_small}
use Rattle.deck.proofs.Counting.{all_reached}
use Rattle.deck.proofs.Walks.{counted_walked}
use Rattle.deck.proofs.Grounds.{reading_laid, settled_all}
use Rattle.deck.proofs.Accepted.{source, storable, chains_some, reading_present}
use Rattle.plain.proofs.Present.{seeds_few, pairs_few}
use Rattle.plain.proofs.PlainForm.{seeds_count, pairs_count}
use Rattle.plain.proofs.Layouts.{layout_back, seeds_back, pairs_back}
use Rattle.plain.proofs.PlainWalk.{runs, plain_ended, plain_reached, plain_rows}

seeds_small : (k : ℕ) (rows : List Row) → All RowInLimits rows → All (λ (s : SeedRecord). mag s.score < 2147483648) (plain_seeds k rows)
unfolding plain_seeds
seeds_small k [] a = tt
seeds_small k (r ∷ rows) a = (a.0.score, seeds_small (k + length r.pairs) rows a.1)

-- Reading the plain form of seeds within the limits gives these seeds.
pub read_plain : (rows : List Row) → InLimits rows → deck_reading (plain_of rows) ≡ deck_accepted rows
unfolding plain_of
read_plain rows h =
    let ss : List SeedRecord = plain_seeds 1 rows in
    let ps : List PairRecord = plain_pairs 1 (chains_of rows) in
    let e : Ended ss ps (runs 1 (chains_of rows)) = plain_ended rows h.each in
    let a : all_in (length ps) (flatten (runs 1 (chains_of rows))) ≡ true = all_reached (counted_walked ss ps e.walked) (omega (arith, plain_reached rows)) in
    reading_laid (deck_of_records ss ps) (layout_back ss ps (omega (arith, seeds_count 1 rows, h.seeds)) (omega (arith, pairs_count 1 (chains_of rows), h.pairs)))
    ∙ ap₂ (λ (x : List SeedRecord) (y : List PairRecord). settled x y (walks y [] x)) (seeds_back ss ps (seeds_small 1 rows h.each)) (pairs_back ss ps)
    ∙ settled_all ss ps e a
    ∙ ap deck_accepted (plain_rows rows h.each)

-- The seeds of an accepted deck are within the limits.
rows_small : (ss : List SeedRecord) (ps : List PairRecord) (chains : List (List ℕ)) → All (λ (s : SeedRecord). mag s.score < 2147483648) ss → All (λ (c : List ℕ). 0 < length c) chains → All RowInLimits (rows_by ss ps chains)
unfolding rows_by
rows_small [] ps chains a b = tt
rows_small (s ∷ ss) ps [] a b = tt
rows_small (s ∷ ss) ps (c ∷ cs) a b = (record { some = rw (length-map c (λ (k : ℕ). (record_of ps k).pair)) b.0; score = a.0; present = refl }, rows_small ss ps cs a.1 b.1)

all_by : {A : Type 0} (P : A → Type 0) (l : List A) (d : A) → ((i : ℕ) → i < length l → P (get_or l i d)) → All P l
all_by P [] d h = tt
all_by P (x ∷ l) d h = (h 0 (omega arith), all_by P l d (λ i k. h (suc i) (omega arith)))

all_tab : {A : Type 0} (P : A → Type 0) (n : ℕ) (f : ℕ → A) → ((i : ℕ) → P (f i)) → All P (tab n f)
unfolding tab
all_tab P zero f h = tt
all_tab P (suc n) f h = (h 0, all_tab P n (λ i. f (suc i)) (λ i. h (suc i)))

records_small : (d : List ℕ) → Bytes d → All (λ (s : SeedRecord). mag s.score < 2147483648) (seed_records d)
unfolding seed_records seed_record
records_small d b = all_tab (λ (s : SeedRecord). mag s.score < 2147483648) (seed_count d) (λ i. seed_record d (4 + 6 * i)) (λ i. signed_small (number32 d (4 + 6 * i)) (number32_below d (4 + 6 * i) b))

pub accepted_limits : (d : List ℕ) (rows : List Row) → Bytes d → deck_reading d ≡ deck_accepted rows → InLimits rows
accepted_limits d rows b e =
    let s = source d rows e in
    let t = storable d rows s in
    record {
      seeds = omega (arith, t.seeds, length-map rows pairs_of_row);
      pairs = t.pairs;
      each = rw s.are (rows_small (seed_records d) (pair_records d) s.chains (records_small d b) (all_by (λ (c : List ℕ). 0 < length c) s.chains [] (chains_some (seed_records d) (pair_records d) s.ended.walked)));
    }

-- An accepted deck's plain form reads the same.
pub read_again : (d : List ℕ) (rows : List Row) → Bytes d → deck_reading d ≡ deck_accepted rows → deck_reading (plain_of rows) ≡ deck_accepted rows
read_again d rows b e = read_plain rows (accepted_limits d rows b e)

-- What was read from a deck and is written is the deck's plain form.
pub read_written : (d : List ℕ) (rows : List Row) (r : Result Table Refusal) (before after : List ℕ) (w : Result ℕ Refusal) → deck_reading d ≡ deck_accepted rows → Reads d r → IsOkAnd r (λ table. WritesPlain (present_rows (rows_of table)) before after w → WritesPlain rows before after w)
read_written d rows (Ok table) before after w e s =
    λ x. subst (λ (l : List Row). WritesPlain l before after w) (ap present_rows s.rows ∙ reading_present d ∙ ap rows_in e) x
read_written d rows (Err refusal) before after w e s = absurd (denies refl (s.answers ∙ ap deck_read_answer e))

-- Written where there is room, rows within the limits read as they are.
written_read : (rows : List Row) (before after : List ℕ) (w : Result ℕ Refusal) → deck_reading (plain_of rows) ≡ deck_accepted rows → length (plain_of rows) ≤ length before → WritesPlain rows before after w → IsOkAnd w (λ n. deck_reading (take n after) ≡ deck_accepted rows)
unfolding written_of
written_read rows before after (Ok n) e l x = ap deck_reading (wrote_front (plain_of rows) before after (Ok n) refl x) ∙ e
written_read rows before after (Err refusal) e l x = let f = rw (le-leb _ _ l) at x.answers in absurd (cc)

-- Read, written into an output that has room, and read again: the same seeds.
pub read_write_read : (d : List ℕ) (rows : List Row) (r : Result Table Refusal) (before after : List ℕ) (w : Result ℕ Refusal) → Bytes d → deck_reading d ≡ deck_accepted rows → Reads d r → length (plain_of rows) ≤ length before → IsOkAnd r (λ table. WritesPlain (present_rows (rows_of table)) before after w → IsOkAnd w (λ n. deck_reading (take n after) ≡ deck_accepted rows))
read_write_read d rows (Ok table) before after w b e s l = λ x. written_read rows before after w (read_again d rows b e) l (read_written d rows (Ok table) before after w e s x)
read_write_read d rows (Err refusal) before after w b e s l = absurd (read_written d rows (Err refusal) before after w e s)

-- The present rows of a filled table, with scores of 32 bits, are within the limits, so that what is written of them reads as them.
present_each : (rows : List Row) → ((i : ℕ) → i < length rows → (0 < length (get_or rows i no_row).pairs) × (mag (get_or rows i no_row).score < 2147483648)) → All RowInLimits (present_rows rows)
unfolding present_rows
present_each [] h = tt
present_each (r ∷ rows) h = go r.present refl (present_each rows (λ i l. h (suc i) (omega arith)))
  where
    go : (b : Bool) → r.present ≡ b → All RowInLimits (present_rows rows) → All RowInLimits (cond b (r ∷ present_rows rows) (present_rows rows))
    go true e rest = let f = h 0 (omega arith) in (record { some = f.0; score = f.1; present = e }, rest)
    go false e rest = rest

module _ (t : Table) (h : Laid t) (small : (i : ℕ) → i < t.seeds → mag (get_or t.scores i (pos 0)) < 2147483648) where
  pub table_limits : InLimits (present_rows (rows_of t))
  unfolding row_at
  table_limits =
      record {
        seeds = seeds_few t h;
        pairs = pairs_few t h;
        each = present_each (rows_of t) (λ i l. let m : i < t.seeds = omega (arith, rows_length t) in rw (row_there t i m) (pairs_some t h i m, small i m));
      }

  pub write_read : (before after : List ℕ) (w : Result ℕ Refusal) → length (plain_of (present_rows (rows_of t))) ≤ length before → WritesPlain (present_rows (rows_of t)) before after w → IsOkAnd w (λ n. deck_reading (take n after) ≡ deck_accepted (present_rows (rows_of t)))
  write_read before after w l x = written_read (present_rows (rows_of t)) before after w (read_plain (present_rows (rows_of t)) table_limits) l x
