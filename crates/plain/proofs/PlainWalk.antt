-- The walk over records in plain form reaches them one after another and comes to its end.
use mathlib.Core.Path.{◌≡◌, refl, sym, ap, ap₂, subst, subst₂, ◌∙◌}
use mathlib.Core.Bool.{Bool, false, cond, ◌||◌}
use mathlib.Core.List.{List, [], ◌∷◌, ◌++◌, map, flatten, append-nil, append_assoc}
use Prim.Native.Nat.{ℕ, zero, suc, ◌+◌, ◌-◌, ◌≤◌, ◌<◌}
use native.Mathlib.Nat.{add-zero, add_assoc}
use native.Mathlib.Numerals.{add-one}
use native.Mathlib.Omega.{arith}
use lib.ListN.{length, get_or, length-append, length-map, get_or-append}
use lib.Seq.{get_or-append-add, get_or-append_seam}
use lib.IntN.{pos}
use lib.Dec.{ltb}
use borrow.Author.Tests.{lt-ltb, le-ltb, ne_eqb}
use Rattle.seed.specs.Tab.{tab}
use Rattle.seed.specs.Pairs.{pair_of}
use Rattle.seed.specs.declared.Pair.{Pair}
use Rattle.table.specs.Rows.{Row, new_row, pairs_of_row}
use Rattle.deck.specs.Deck.{SeedRecord, PairRecord, first_of, record_of, is_in, rows_by, chains_of}
use Rattle.plain.specs.Plain.{plain_chain, plain_pairs, plain_seeds, All, RowInLimits}
use Rattle.deck.specs.Grounds.{Fresh, Passes, Walked, Ended}
use Rattle.deck.specs.Grounds.Passes.{at_start, onward}
use Rattle.deck.specs.Grounds.Walked.{none_yet, one_more}
use Rattle.plain.specs.inner.Writing.{next_of}
use Rattle.seed.proofs.Tabs.{length_tab, map_tab}
use Rattle.deck.proofs.Lists.{tab_next, tab_elements, map_append, flatten_append, flatten_more}
use Rattle.deck.proofs.Counting.{is_in_more}
use Rattle.plain.proofs.Writing.{chain_length, chain_at}
use Rattle.plain.proofs.PlainForm.{seeds_append, pairs_append, seeds_count, pairs_count}

-- The n numbers from k on, and such a run for each seed.
numbers : ℕ → ℕ → List ℕ
numbers k n = tab n (λ i. k + i)

pub runs : ℕ → List (List Pair) → List (List ℕ)
runs k [] = []
runs k (c ∷ cs) = numbers k (length c) ∷ runs (k + length c) cs

numbers_length : (k n : ℕ) → length (numbers k n) ≡ n
unfolding numbers
numbers_length k n = length_tab n (λ i. k + i)

numbers_more : (k n : ℕ) → numbers k (suc n) ≡ numbers k n ++ (k + n) ∷ []
unfolding numbers
numbers_more k n = tab_next n (λ i. k + i)

numbers_append : (k m n : ℕ) → numbers k m ++ numbers (k + m) n ≡ numbers k (m + n)
unfolding numbers tab
numbers_append k m zero = append-nil (numbers k m) ∙ ap (numbers k) (sym (add-zero m))
numbers_append k m (suc n) =
    let e : suc (m + n) ≡ m + suc n = omega arith in
    ap (λ (l : List ℕ). numbers k m ++ l) (numbers_more (k + m) n)
    ∙ sym (append_assoc (numbers k m) (numbers (k + m) n) ((k + m + n) ∷ []))
    ∙ ap₂ (λ (l : List ℕ) (j : ℕ). l ++ j ∷ []) (numbers_append k m n) (add_assoc k m n)
    ∙ sym (numbers_more k (m + n))
    ∙ ap (numbers k) e

numbers_new : (k n j : ℕ) → k + n ≤ j → is_in j (numbers k n) ≡ false
unfolding numbers tab is_in
numbers_new k zero j h = refl
numbers_new k (suc n) j h =
    ap (is_in j) (numbers_more k n) ∙ is_in_more j (numbers k n) (k + n)
    ∙ ap₂ (λ (a b : Bool). a || b) (numbers_new k n j (omega arith)) (ne_eqb j (k + n) (λ e. omega arith))

runs_append : (k : ℕ) (front back : List (List Pair)) → runs k (front ++ back) ≡ runs k front ++ runs (k + length (flatten front)) back
unfolding runs flatten
runs_append k [] back = rw (add-zero k)
runs_append k (c ∷ front) back =
    let e : k + length c + length (flatten front) ≡ k + length (c ++ flatten front) = omega (arith, length-append c (flatten front)) in
    ap (λ (l : List (List ℕ)). numbers k (length c) ∷ l) (runs_append (k + length c) front back ∙ ap (λ (m : ℕ). runs (k + length c) front ++ runs m back) e)

runs_length : (k : ℕ) (cs : List (List Pair)) → length (runs k cs) ≡ length cs
unfolding runs
runs_length k [] = refl
runs_length k (c ∷ cs) = ap suc (runs_length (k + length c) cs)

runs_flat : (k : ℕ) (cs : List (List Pair)) → flatten (runs k cs) ≡ numbers k (length (flatten cs))
unfolding runs flatten numbers tab
runs_flat k [] = refl
runs_flat k (c ∷ cs) =
    ap (λ (l : List ℕ). numbers k (length c) ++ l) (runs_flat (k + length c) cs)
    ∙ numbers_append k (length c) (length (flatten cs))
    ∙ ap (numbers k) (sym (length-append c (flatten cs)))

-- The records of one seed in plain form, with those of the seeds before and after it.
module _ (front : List (List Pair)) (c : List Pair) (back : List (List Pair)) where
  abbrev ps : List PairRecord
  ps = plain_pairs 1 (front ++ c ∷ back)

  abbrev k : ℕ
  k = 1 + length (flatten front)

  record_there : (j : ℕ) → j < length c → record_of ps (k + j) ≡ record { pair = get_or c j (pair_of 0 0); next = next_of k j (length c) }
  unfolding record_of plain_pairs
  record_there j h =
      let x : PairRecord = record { pair = pair_of 0 0; next = 0 } in
      let e : k + j - 1 ≡ length (plain_pairs 1 front) + j = omega (arith, pairs_count 1 front) in
      ap₂ (λ (l : List PairRecord) (i : ℕ). get_or l i x) (pairs_append 1 front (c ∷ back)) e
      ∙ get_or-append-add (plain_pairs 1 front) (plain_chain k c ++ plain_pairs (k + length c) back) j x
      ∙ get_or-append (plain_chain k c) (plain_pairs (k + length c) back) x j (rw (chain_length k c) h)
      ∙ chain_at k c j x h

  total : length ps ≡ length (flatten front) + length c + length (flatten back)
  unfolding flatten
  total = pairs_count 1 (front ++ c ∷ back) ∙ ap length (flatten_append front (c ∷ back)) ∙ length-append (flatten front) (c ++ flatten back) ∙ omega (arith, length-append c (flatten back))

  fresh : (j : ℕ) → j < length c → Fresh ps (flatten (runs 1 front) ++ numbers k j) (k + j)
  fresh j h = record { low = omega arith; high = omega (arith, total); new = rw (runs_flat 1 front, numbers_append 1 (length (flatten front)) j) (numbers_new 1 (length (flatten front) + j) (k + j) (omega arith)) }

  abbrev after : ℕ → ℕ
  after j = cond (ltb j (length c)) (k + j) 0

  passes : (j : ℕ) → j ≤ length c → 0 < length c → Passes ps (flatten (runs 1 front)) k (numbers k j) (after j)
  unfolding numbers tab
  passes zero h s = rw (lt-ltb 0 (length c) s, add-zero k) at_start
  passes (suc j) h s =
      let p : Passes ps (flatten (runs 1 front)) k (numbers k j) (k + j) = rw (lt-ltb j (length c) h) at (passes j (omega arith) s) in
      let e : k + j + 1 ≡ k + suc j = omega arith in
      let n : (record_of ps (k + j)).next ≡ after (suc j) = ap (λ (r : PairRecord). r.next) (record_there j h) ∙ ap₂ (λ (i m : ℕ). cond (ltb i (length c)) m 0) (add-one j) e in
      subst₂ (Passes ps (flatten (runs 1 front)) k) (sym (numbers_more k j)) n (onward p (fresh j h))

  seed_passes : 0 < length c → Passes ps (flatten (runs 1 front)) k (numbers k (length c)) 0
  seed_passes s = rw (le-ltb (length c) (length c) (omega arith)) at (passes (length c) (omega arith) s)

  pairs_there : map (λ (j : ℕ). (record_of ps j).pair) (numbers k (length c)) ≡ c
  unfolding numbers
  pairs_there = map_tab (λ (j : ℕ). (record_of ps j).pair) (length c) (λ i. k + i) ∙ tab_elements (length c) (λ i. (record_of ps (k + i)).pair) c (pair_of 0 0) refl (λ i h. ap (λ (r : PairRecord). r.pair) (record_there i h))

-- One seed more of all.
module _ (front : List Row) (r : Row) (back : List Row) where
  chains_split : chains_of (front ++ r ∷ back) ≡ chains_of front ++ r.pairs ∷ chains_of back
  chains_split = map_append pairs_of_row front (r ∷ back)

  chains_more : chains_of (front ++ r ∷ []) ≡ chains_of front ++ r.pairs ∷ []
  chains_more = map_append pairs_of_row front (r ∷ [])

  number_more : 1 + length (flatten (chains_of (front ++ r ∷ []))) ≡ 1 + length (flatten (chains_of front)) + length r.pairs
  number_more = rw (chains_more, flatten_more (chains_of front) r.pairs, length-append (flatten (chains_of front)) r.pairs) (omega arith)

  run_more : runs 1 (chains_of (front ++ r ∷ [])) ≡ runs 1 (chains_of front) ++ numbers (1 + length (flatten (chains_of front))) (length r.pairs) ∷ []
  unfolding runs
  run_more = ap (runs 1) chains_more ∙ runs_append 1 (chains_of front) (r.pairs ∷ [])

  first_there : first_of (plain_seeds 1 (front ++ r ∷ back)) (length front) ≡ 1 + length (flatten (chains_of front))
  unfolding first_of plain_seeds
  first_there =
      ap₂ (λ (l : List SeedRecord) (i : ℕ). (get_or l i (record { score = pos 0; first = 0 })).first) (seeds_append 1 front (r ∷ back)) (sym (seeds_count 1 front))
      ∙ ap (λ (s : SeedRecord). s.first) (get_or-append_seam (plain_seeds 1 front) _ _ _)

  run_length : length (runs 1 (chains_of front)) ≡ length front
  run_length = runs_length 1 (chains_of front) ∙ length-map front pairs_of_row

  walked_more : 0 < length r.pairs → Walked (plain_seeds 1 (front ++ r ∷ back)) (plain_pairs 1 (chains_of (front ++ r ∷ back))) (runs 1 (chains_of front)) → Walked (plain_seeds 1 (front ++ r ∷ back)) (plain_pairs 1 (chains_of (front ++ r ∷ back))) (runs 1 (chains_of (front ++ r ∷ [])))
  walked_more s w =
      let f : first_of (plain_seeds 1 (front ++ r ∷ back)) (length (runs 1 (chains_of front))) ≡ 1 + length (flatten (chains_of front)) = ap (first_of (plain_seeds 1 (front ++ r ∷ back))) run_length ∙ first_there in
      let p : Passes (plain_pairs 1 (chains_of (front ++ r ∷ back))) (flatten (runs 1 (chains_of front))) (first_of (plain_seeds 1 (front ++ r ∷ back)) (length (runs 1 (chains_of front)))) (numbers (1 + length (flatten (chains_of front))) (length r.pairs)) 0 = rw (f, chains_split) (seed_passes (chains_of front) r.pairs (chains_of back) s) in
      rw run_more (one_more w (omega (arith, run_length, seeds_count 1 (front ++ r ∷ back), length-append front (r ∷ back))) (λ e. omega arith) p)

-- All seeds.
abbrev Reached : List Row → List Row → Type 0
Reached rows front = Walked (plain_seeds 1 rows) (plain_pairs 1 (chains_of rows)) (runs 1 (chains_of front))

walked_from : (front back : List Row) → All RowInLimits back → Reached (front ++ back) front → Reached (front ++ back) (front ++ back)
walked_from front [] a w = subst (λ (l : List Row). Reached (front ++ []) l) (sym (append-nil front)) w
walked_from front (r ∷ back) a w =
    let e : front ++ r ∷ [] ++ back ≡ front ++ r ∷ back = append_assoc front (r ∷ []) back in
    subst (λ (rows : List Row). Reached rows rows) e
    (walked_from (front ++ r ∷ []) back a.1 (subst (λ (rows : List Row). Reached rows (front ++ r ∷ [])) (sym e) (walked_more front r back a.0.some w)))

pub plain_ended : (rows : List Row) → All RowInLimits rows → Ended (plain_seeds 1 rows) (plain_pairs 1 (chains_of rows)) (runs 1 (chains_of rows))
unfolding runs
plain_ended rows a = record { walked = walked_from [] rows a none_yet; all = runs_length 1 (chains_of rows) ∙ length-map rows pairs_of_row ∙ sym (seeds_count 1 rows) }

pub plain_reached : (rows : List Row) → length (flatten (runs 1 (chains_of rows))) ≡ length (plain_pairs 1 (chains_of rows))
plain_reached rows = ap length (runs_flat 1 (chains_of rows)) ∙ numbers_length 1 (length (flatten (chains_of rows))) ∙ sym (pairs_count 1 (chains_of rows))

rows_from : (front back : List Row) (k : ℕ) → All RowInLimits back → k ≡ 1 + length (flatten (chains_of front)) → rows_by (plain_seeds k back) (plain_pairs 1 (chains_of (front ++ back))) (runs k (chains_of back)) ≡ back
unfolding rows_by plain_seeds runs
rows_from front [] k a e = refl
rows_from front (r ∷ back) k a e =
    let pairs : map (λ (j : ℕ). (record_of (plain_pairs 1 (chains_of (front ++ r ∷ back))) j).pair) (numbers k (length r.pairs)) ≡ r.pairs = rw (e, chains_split front r back) (pairs_there (chains_of front) r.pairs (chains_of back)) in
    let n : k + length r.pairs ≡ 1 + length (flatten (chains_of (front ++ r ∷ []))) = omega (arith, number_more front r back) in
    let rest = rw (append_assoc front (r ∷ []) back) at (rows_from (front ++ r ∷ []) back (k + length r.pairs) a.1 n) in
    let is : new_row r.pairs r.score ≡ r = λ j. record { pairs = r.pairs; score = r.score; present = sym a.0.present j } in
    ap₂ (λ (ps : List Pair) (rs : List Row). new_row ps r.score ∷ rs) pairs rest ∙ ap (λ (x : Row). x ∷ back) is

pub plain_rows : (rows : List Row) → All RowInLimits rows → rows_by (plain_seeds 1 rows) (plain_pairs 1 (chains_of rows)) (runs 1 (chains_of rows)) ≡ rows
unfolding flatten
plain_rows rows a = rows_from [] rows 1 a refl
