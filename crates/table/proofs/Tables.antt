-- The rows of a table: how many they are, each of them, one other row, one row more.
use mathlib.Core.Path.{◌≡◌, refl, sym, ap, ◌∙◌}
use mathlib.Core.Bool.{Bool, false}
use mathlib.Core.Logic.{◌≢◌}
use mathlib.Core.List.{List, [], ◌∷◌, ◌++◌}
use Prim.Native.Nat.{ℕ, zero, suc, ◌+◌, ◌-◌, ◌≤◌, ◌<◌}
use native.Mathlib.Numerals.{add-one}
use native.Mathlib.Omega.{arith}
use lib.ListN.{length, get_or, set, length-set, get_or-eq_default}
use lib.Seq.{set_out, get_or-set_same, get_or-set_other}
use lib.IntN.{ℤ, pos}
use borrow.Author.Count.{below_none}
use Rattle.seed.specs.Tab.{tab}
use Rattle.seed.specs.Pairs.{pairs_of}
use Rattle.seed.specs.Seed.{last_pair}
use Rattle.seed.specs.declared.Pair.{Pair}
use Rattle.seed.proofs.PairLists.{count_first}
use Rattle.seed.proofs.Tabs.{length_tab, get_d_tab, tab_set, tab_more}
use Rattle.table.specs.Rows.{Row, no_row, with_score, with_presence, pairs_in_all, summary_of}
use Rattle.table.specs.Table.{nodes_of, pairs_at, row_at, rows_of, table_of, no_seeds, Laid, HasRows}
use Rattle.table.specs.declared.Table.{Table}
use Rattle.table.proofs.Nodes.{between_length}

pub rows_length : (t : Table) → length (rows_of t) ≡ t.seeds
unfolding rows_of
rows_length t = length_tab t.seeds (row_at t)

pub row_there : (t : Table) (i : ℕ) → i < t.seeds → get_or (rows_of t) i no_row ≡ row_at t i
unfolding rows_of
row_there t i h = get_d_tab t.seeds (row_at t) i no_row h

pub row_past : (t : Table) (i : ℕ) → t.seeds ≤ i → get_or (rows_of t) i no_row ≡ no_row
row_past t i h = get_or-eq_default (rows_of t) no_row (omega (arith, rows_length t))

-- A table is the one that lies in its own arrays.
pub table_in : (t : Table) → Laid t → table_of t.qs t.ts t.bounds t.scores t.present t.seeds ≡ t
table_in t h = ap (λ (n : ℕ). record { seeds = t.seeds; pairs = n; qs = t.qs; ts = t.ts; bounds = t.bounds; scores = t.scores; present = t.present }) h.last

-- Another row at one place.
rows_set : (t r : Table) (k : ℕ) → r.seeds ≡ t.seeds → k < t.seeds → ((i : ℕ) → i < t.seeds → i ≢ k → row_at r i ≡ row_at t i) → rows_of r ≡ set (rows_of t) k (row_at r k)
unfolding rows_of
rows_set t r k e l h = ap (λ (n : ℕ). tab n (row_at r)) e ∙ tab_set t.seeds (row_at t) (row_at r) k l h

pub rows_same : (t : Table) (k : ℕ) (row : Row) → Laid t → t.seeds ≤ k → HasRows (set (rows_of t) k row) t
rows_same t k row h l = record { is = sym (set_out (rows_of t) k row (omega (arith, rows_length t))); laid = h }

-- Other scores and presences, of as many places.
abbrev with_places : Table → List ℤ → List Bool → Table
with_places t scores present = record {
  seeds = t.seeds;
  pairs = t.pairs;
  qs = t.qs;
  ts = t.ts;
  bounds = t.bounds;
  scores = scores;
  present = present;
}

laid_places : (t : Table) (scores : List ℤ) (present : List Bool) → Laid t → length scores ≡ length t.scores → length present ≡ length t.present → Laid (with_places t scores present)
laid_places t scores present h e f =
    record {
      few = h.few;
      fit = h.fit;
      first = h.first;
      last = h.last;
      rising = h.rising;
      within = h.within;
      room_q = h.room_q;
      room_t = h.room_t;
      room_bounds = h.room_bounds;
      room_scores = e ∙ h.room_scores;
      room_present = f ∙ h.room_present;
    }

-- Another score.
abbrev pub with_score_lem : Table → ℕ → ℤ → Table
with_score_lem t k z = with_places t (set t.scores k z) t.present

pub rows_score : (t : Table) (k : ℕ) (z : ℤ) → Laid t → k < t.seeds → HasRows (set (rows_of t) k (with_score (get_or (rows_of t) k no_row) z)) (with_score_lem t k z)
unfolding row_at pairs_at
rows_score t k z h l =
    record {
      is =
          rows_set t (with_score_lem t k z) k refl l (λ i b ne. rw (get_or-set_other t.scores k i z (pos 0) ne))
          ∙ ap (set (rows_of t) k) (rw (row_there t k l, get_or-set_same t.scores k z (pos 0) (omega (arith, h.room_scores, h.few))));
      laid = laid_places t _ _ h (length-set t.scores k z) refl;
    }

-- Another presence.
abbrev pub with_presence_lem : Table → ℕ → Bool → Table
with_presence_lem t k b = with_places t t.scores (set t.present k b)

pub rows_presence : (t : Table) (k : ℕ) (b : Bool) → Laid t → k < t.seeds → HasRows (set (rows_of t) k (with_presence (get_or (rows_of t) k no_row) b)) (with_presence_lem t k b)
unfolding row_at pairs_at
rows_presence t k b h l =
    record {
      is =
          rows_set t (with_presence_lem t k b) k refl l (λ i m ne. rw (get_or-set_other t.present k i b false ne))
          ∙ ap (set (rows_of t) k) (rw (row_there t k l, get_or-set_same t.present k b false (omega (arith, h.room_present, h.few))));
      laid = laid_places t _ _ h refl (length-set t.present k b);
    }

-- How many pairs a seed has.
module _ (t : Table) (h : Laid t) where
  part_length : (nodes : List ℕ) → length nodes ≡ 1024 → (i : ℕ) → i < t.seeds → length (nodes_of nodes t.bounds i) ≡ get_or t.bounds (i + 1) 0 - get_or t.bounds i 0
  unfolding nodes_of
  part_length nodes room i l =
      between_length nodes (get_or t.bounds i 0) (get_or t.bounds (i + 1) 0) (omega (arith, h.rising i l))
      (omega (arith, h.within (i + 1) (omega arith), h.fit))

  pub q_length : (i : ℕ) → i < t.seeds → length (nodes_of t.qs t.bounds i) ≡ get_or t.bounds (i + 1) 0 - get_or t.bounds i 0
  q_length = part_length t.qs h.room_q

  pub t_length : (i : ℕ) → i < t.seeds → length (nodes_of t.ts t.bounds i) ≡ get_or t.bounds (i + 1) 0 - get_or t.bounds i 0
  t_length = part_length t.ts h.room_t

  pub pairs_length : (i : ℕ) → i < t.seeds → length (pairs_at t i) ≡ length (nodes_of t.qs t.bounds i)
  unfolding pairs_at
  pairs_length i l = count_first (nodes_of t.qs t.bounds i) (nodes_of t.ts t.bounds i) (omega (arith, q_length i l, t_length i l))

  pub pairs_some : (i : ℕ) → i < t.seeds → 0 < length (pairs_at t i)
  pairs_some i l = omega (arith, pairs_length i l, q_length i l, h.rising i l)

-- How many pairs the rows have in all.
pub count_more : (rows : List Row) (r : Row) → pairs_in_all (rows ++ r ∷ []) ≡ pairs_in_all rows + length r.pairs
unfolding pairs_in_all
count_more [] r = omega arith
count_more (x ∷ rows) r = omega (arith, count_more rows r)

count_below_lem : (t : Table) → Laid t → (n : ℕ) → n ≤ t.seeds → pairs_in_all (tab n (row_at t)) ≡ get_or t.bounds n 0
unfolding tab pairs_in_all row_at
count_below_lem t h zero l = sym h.first
count_below_lem t h (suc n) l =
    let m : n < t.seeds = omega arith in
    ap pairs_in_all (tab_more n (row_at t) (row_at t) (λ i k. refl))
    ∙ count_more (tab n (row_at t)) (row_at t n)
    ∙ rw (← add-one n) (omega (arith, count_below_lem t h n (omega arith), pairs_length t h n m, q_length t h n m, h.rising n m))

pub rows_count : (t : Table) → Laid t → pairs_in_all (rows_of t) ≡ t.pairs
unfolding rows_of
rows_count t h = count_below_lem t h t.seeds (omega arith) ∙ h.last

-- The table without seeds.
pub laid_none : Laid no_seeds
laid_none =
    record {
      few = omega arith;
      fit = omega arith;
      first = refl;
      last = refl;
      rising = below_none _;
      within = λ i l. let e : i ≡ 0 = omega arith in rw e (omega arith);
      room_q = refl;
      room_t = refl;
      room_bounds = refl;
      room_scores = refl;
      room_present = refl;
    }

pub rows_none : rows_of no_seeds ≡ []
unfolding rows_of tab
rows_none = refl

-- What a row says of its seed.
pub summary_past : (t : Table) (i : ℕ) → t.seeds ≤ i → summary_of no_row ≡ summary_of (get_or (rows_of t) i no_row)
summary_past t i l = ap summary_of (sym (row_past t i l))

pub summary_there : (t : Table) (i : ℕ) → Laid t → i < t.seeds → {last : Pair} {n : ℕ} → last ≡ last_pair (pairs_of (nodes_of t.qs t.bounds i) (nodes_of t.ts t.bounds i)) → n ≡ length (nodes_of t.qs t.bounds i) → record { score = get_or t.scores i (pos 0); last = last; pairs = n; present = get_or t.present i false } ≡ summary_of (get_or (rows_of t) i no_row)
unfolding row_at pairs_at
summary_there t i h l e f = rw (row_there t i l, e, f ∙ sym (pairs_length t h i l))
