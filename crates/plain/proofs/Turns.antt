-- What holds while the present seeds of a table are counted, and of the output while they are written, turn by turn.
use mathlib.Core.Path.{◌≡◌, sym, ap, ap₂, ◌∙◌}
use mathlib.Core.Bool.{true, false}
use mathlib.Core.List.{List, [], ◌∷◌, ◌++◌, flatten}
use Prim.Native.Nat.{ℕ, ◌+◌, ◌*◌, ◌≤◌, ◌<◌}
use native.Mathlib.Omega.{arith}
use lib.ListN.{length, get_or}
use lib.Seq.{sets, length-sets}
use lib.IntN.{ℤ, pos}
use Rattle.seed.specs.Pairs.{pairs_of}
use Rattle.seed.specs.declared.Pair.{Pair}
use Rattle.table.specs.Rows.{Row, present_rows, pairs_of_row}
use Rattle.table.specs.Table.{nodes_of, pairs_at, row_at, rows_of, Laid}
use Rattle.table.specs.declared.Table.{Table}
use Rattle.table.proofs.Tables.{q_length, t_length}
use Rattle.deck.specs.Deck.{chains_of}
use Rattle.deck.proofs.Lists.{map_append}
use Rattle.plain.specs.Plain.{seed_bytes, plain_chain, plain_pairs}
use Rattle.plain.specs.inner.Writing.{size_of, seed_part, pair_part}
use Rattle.plain.specs.declared.size.Size.{Size}
use Rattle.write.proofs.Sets.{sets_after}
use Rattle.plain.proofs.Writing.{pair_part_append, pair_part_length}
use Rattle.plain.proofs.Present.{pair_total, present_below, below_more, below_same, below_few, seeds_few, pairs_few, count_more, total_more}
use Rattle.plain.proofs.PlainForm.{seed_part_more, seed_part_length, pairs_more, pairs_count}

-- The size of the present rows passed.
module _ (t : Table) (h : Laid t) {size : Size} {i : ℕ} (is : size ≡ size_of (present_below t i)) (l : i < t.seeds) where
  pub size_few : (size.seeds ≤ 64) × (size.pairs ≤ 1024) × (length (nodes_of t.qs t.bounds i) ≤ 1024)
  size_few =
      let f = below_few t i (omega arith) in
      let n = ap (λ (z : Size). z.seeds) is in
      let m = ap (λ (z : Size). z.pairs) is in
      (omega (arith, f, n, seeds_few t h), omega (arith, f, m, pairs_few t h), omega (arith, q_length t h i l, h.within (i + 1) (omega arith), h.fit))

  pub size_same : get_or t.present i false ≡ false → size ≡ size_of (present_below t (i + 1))
  size_same e = is ∙ ap size_of (sym (below_same t i e))

  pub size_more : get_or t.present i false ≡ true → {m : ℕ} → m ≡ length (nodes_of t.qs t.bounds i) → record { seeds = size.seeds + 1; pairs = size.pairs + m } ≡ size_of (present_below t (i + 1))
  size_more e {m} c =
      ap (λ (z : Size). record { seeds = z.seeds + 1; pairs = z.pairs + m }) is
      ∙ ap₂ (λ (x y : ℕ). record { seeds = x; pairs = y }) (sym (count_more t i e)) (ap (λ (n : ℕ). pair_total (present_below t i) + n) c ∙ sym (total_more t h i l e))

-- What holds of the output while the seed records are written, and while the pair records are.
pub record Seeding (t : Table) (before out : List ℕ) (at k i : ℕ) : Type 0 where
  pub few : i ≤ t.seeds
  pub as_long : length out ≡ length before
  pub place : at ≡ 4 + 6 * length (present_below t i)
  pub number : k ≡ 1 + pair_total (present_below t i)
  pub wrote : out ≡ sets before 4 (seed_part (present_below t i))

pub record Pairing (t : Table) (start : ℕ) (before out : List ℕ) (at k i : ℕ) : Type 0 where
  pub few : i ≤ t.seeds
  pub as_long : length out ≡ length before
  pub place : at ≡ start + 4 * pair_total (present_below t i)
  pub number : k ≡ 1 + pair_total (present_below t i)
  pub wrote : out ≡ sets before start (pair_part (plain_pairs 1 (chains_of (present_below t i))))

-- All rows are passed.
pub passed_all : (t : Table) (i : ℕ) → i ≤ t.seeds → t.seeds ≤ i → present_below t i ≡ present_rows (rows_of t)
unfolding rows_of
passed_all t i a b = let e : i ≡ t.seeds = omega arith in ap (present_below t) e

pub seeding_all : (t : Table) {before out : List ℕ} {at k i : ℕ} → Seeding t before out at k i → t.seeds ≤ i → out ≡ sets before 4 (seed_part (present_rows (rows_of t)))
seeding_all t {before} {i = i} w l = w.wrote ∙ ap (λ (rows : List Row). sets before 4 (seed_part rows)) (passed_all t i w.few l)

pub pairing_all : (t : Table) (start : ℕ) {before out : List ℕ} {at k i : ℕ} → Pairing t start before out at k i → t.seeds ≤ i → out ≡ sets before start (pair_part (plain_pairs 1 (chains_of (present_rows (rows_of t)))))
pairing_all t start {before} {i = i} w l = w.wrote ∙ ap (λ (rows : List Row). sets before start (pair_part (plain_pairs 1 (chains_of rows)))) (passed_all t i w.few l)

module _ (t : Table) (h : Laid t) {before out : List ℕ} {at k i : ℕ} (w : Seeding t before out at k i) (l : i < t.seeds) where
  pub seeding_same : get_or t.present i false ≡ false → Seeding t before out at k (i + 1)
  seeding_same e =
      let c = below_same t i e in
      record {
        few = omega arith;
        as_long = w.as_long;
        place = rw c w.place;
        number = rw c w.number;
        wrote = rw c w.wrote;
      }

  module _ (e : get_or t.present i false ≡ true) where
    pub seeding_room : 4 + 6 * length (present_rows (rows_of t)) ≤ length before → at + 6 ≤ length out
    seeding_room r = omega (arith, w.place, w.as_long, count_more t i e, below_few t (i + 1) (omega arith))

    pub seeding_few : k + length (nodes_of t.qs t.bounds i) ≤ 1025
    seeding_few = omega (arith, w.number, total_more t h i l e, below_few t (i + 1) (omega arith), pairs_few t h)

    pub seeding_more : (next : List ℕ) (z : ℤ) (m : ℕ) → z ≡ get_or t.scores i (pos 0) → m ≡ length (nodes_of t.qs t.bounds i) → next ≡ sets out at (seed_bytes (record { score = z; first = k })) → Seeding t before next (at + 6) (k + m) (i + 1)
    unfolding row_at
    seeding_more next z m f c a =
        let rows : List Row = present_below t i in
        let at_is : at ≡ 4 + length (seed_part rows) = omega (arith, w.place, seed_part_length rows) in
        record {
          few = omega arith;
          as_long = ap length a ∙ simp length-sets w.as_long;
          place = omega (arith, w.place, count_more t i e);
          number = omega (arith, w.number, total_more t h i l e);
          wrote =
              sets_after before 4 (seed_part rows) _ w.wrote a at_is
              ∙ ap (sets before 4)
              (ap₂ (λ (y : ℤ) (x : ℕ). seed_part rows ++ seed_bytes (record { score = y; first = x })) f w.number
              ∙ sym (seed_part_more rows (row_at t i))
              ∙ ap seed_part (sym (below_more t i e)));
        }

module _ (t : Table) (start : ℕ) (h : Laid t) {before out : List ℕ} {at k i : ℕ} (w : Pairing t start before out at k i) (l : i < t.seeds) where
  pub pairing_same : get_or t.present i false ≡ false → Pairing t start before out at k (i + 1)
  pairing_same e =
      let c = below_same t i e in
      record {
        few = omega arith;
        as_long = w.as_long;
        place = rw c w.place;
        number = rw c w.number;
        wrote = rw c w.wrote;
      }

  module _ (e : get_or t.present i false ≡ true) where
    pub pairing_same_long : length (nodes_of t.ts t.bounds i) ≡ length (nodes_of t.qs t.bounds i)
    pairing_same_long = t_length t h i l ∙ sym (q_length t h i l)

    pub pairing_few : k + length (nodes_of t.qs t.bounds i) ≤ 1025
    pairing_few = omega (arith, w.number, total_more t h i l e, below_few t (i + 1) (omega arith), pairs_few t h)

    pub pairing_room : start + 4 * pair_total (present_rows (rows_of t)) ≤ length before → at + 4 * length (nodes_of t.qs t.bounds i) ≤ length out
    pairing_room r = omega (arith, w.place, w.as_long, total_more t h i l e, below_few t (i + 1) (omega arith))

    pub pairing_more : (next : List ℕ) (m : ℕ) (qs ts : List ℕ) → qs ≡ nodes_of t.qs t.bounds i → ts ≡ nodes_of t.ts t.bounds i → m ≡ length qs → next ≡ sets out at (pair_part (plain_chain k (pairs_of qs ts))) → Pairing t start before next (at + 4 * m) (k + m) (i + 1)
    unfolding row_at pairs_at
    pairing_more next m qs ts is-qs is-ts n put =
        let c : m ≡ length (nodes_of t.qs t.bounds i) = n ∙ ap length is-qs in
        let a : next ≡ sets out at (pair_part (plain_chain k (pairs_at t i))) = put ∙ ap₂ (λ (x y : List ℕ). sets out at (pair_part (plain_chain k (pairs_of x y)))) is-qs is-ts in
        let cs : List (List Pair) = chains_of (present_below t i) in
        let at_is : at ≡ start + length (pair_part (plain_pairs 1 cs)) = omega (arith, w.place, pair_part_length (plain_pairs 1 cs), pairs_count 1 cs) in
        let more : chains_of (present_below t (i + 1)) ≡ cs ++ pairs_at t i ∷ [] = ap chains_of (below_more t i e) ∙ map_append pairs_of_row (present_below t i) (row_at t i ∷ []) in
        record {
          few = omega arith;
          as_long = ap length a ∙ simp length-sets w.as_long;
          place = omega (arith, w.place, total_more t h i l e);
          number = omega (arith, w.number, total_more t h i l e);
          wrote =
              sets_after before start (pair_part (plain_pairs 1 cs)) _ w.wrote a at_is
              ∙ ap (sets before start)
              (ap (λ (x : ℕ). pair_part (plain_pairs 1 cs) ++ pair_part (plain_chain x (pairs_at t i))) w.number
              ∙ sym (ap pair_part (ap (plain_pairs 1) more ∙ pairs_more 1 cs (pairs_at t i)) ∙ pair_part_append (plain_pairs 1 cs) (plain_chain (1 + length (flatten cs)) (pairs_at t i))));
        }
