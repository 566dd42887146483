-- The present rows among the first of a table: how many they are, with how many pairs, and one more.
use mathlib.Core.Path.{◌≡◌, refl, sym, ap, ◌∙◌}
use mathlib.Core.Logic.{⊎_elim}
use mathlib.Core.Bool.{Bool, true, false, cond}
use mathlib.Core.List.{List, [], ◌∷◌, ◌++◌, flatten, append-nil, append_assoc}
use Prim.Native.Nat.{ℕ, zero, suc, ◌+◌, ◌≤◌, ◌<◌}
use native.Mathlib.Numerals.{add-one}
use native.Mathlib.Omega.{arith}
use lib.ListN.{length, get_or, length-append}
use Rattle.tree.proofs.Leaves.{lt_or_le}
use Rattle.seed.specs.Tab.{tab}
use Rattle.table.specs.Rows.{Row, present_rows, pairs_in_all, pairs_of_row}
use Rattle.table.specs.Table.{nodes_of, row_at, rows_of, Laid}
use Rattle.table.specs.declared.Table.{Table}
use Rattle.table.proofs.Tables.{rows_length, rows_count, pairs_length}
use Rattle.deck.specs.Deck.{chains_of}
use Rattle.deck.proofs.Lists.{tab_next, map_append, flatten_append}

-- How many pairs some rows have.
abbrev pub pair_total : List Row → ℕ
pair_total rows = length (flatten (chains_of rows))

pairs_append : (xs ys : List Row) → pair_total (xs ++ ys) ≡ pair_total xs + pair_total ys
pairs_append xs ys = ap length (ap flatten (map_append pairs_of_row xs ys) ∙ flatten_append (chains_of xs) (chains_of ys)) ∙ length-append (flatten (chains_of xs)) (flatten (chains_of ys))

pairs_one : (xs : List Row) (r : Row) → pair_total (xs ++ r ∷ []) ≡ pair_total xs + length r.pairs
unfolding flatten
pairs_one xs r = pairs_append xs (r ∷ []) ∙ rw append-nil

-- The present rows of some rows.
present_append : (xs ys : List Row) → present_rows (xs ++ ys) ≡ present_rows xs ++ present_rows ys
unfolding present_rows
present_append [] ys = refl
present_append (x ∷ xs) ys = go x.present (present_append xs ys)
  where
    go : (b : Bool) → present_rows (xs ++ ys) ≡ present_rows xs ++ present_rows ys → cond b (x ∷ present_rows (xs ++ ys)) (present_rows (xs ++ ys)) ≡ cond b (x ∷ present_rows xs) (present_rows xs) ++ present_rows ys
    go true e = ap (λ (l : List Row). x ∷ l) e
    go false e = e

present_few : (rows : List Row) → (length (present_rows rows) ≤ length rows) × (pair_total (present_rows rows) ≤ pairs_in_all rows)
unfolding present_rows pairs_in_all flatten
present_few [] = (omega arith, omega arith)
present_few (r ∷ rows) = go r.present (present_few rows)
  where
    rest : List Row
    rest = present_rows rows

    go : (b : Bool) → (length rest ≤ length rows) × (pair_total rest ≤ pairs_in_all rows) → (length (cond b (r ∷ rest) rest) ≤ suc (length rows)) × (pair_total (cond b (r ∷ rest) rest) ≤ length r.pairs + pairs_in_all rows)
    go true e = (omega arith, omega (arith, length-append r.pairs (flatten (chains_of rest))))
    go false e = (omega arith, omega arith)

-- Those among the first n of a table.
abbrev pub present_below : Table → ℕ → List Row
present_below t n = present_rows (tab n (row_at t))

module _ (t : Table) where
  below_next : (i : ℕ) → present_below t (suc i) ≡ present_below t i ++ present_rows (row_at t i ∷ [])
  below_next i = ap present_rows (tab_next i (row_at t)) ∙ present_append (tab i (row_at t)) (row_at t i ∷ [])

  pub below_more : (i : ℕ) → get_or t.present i false ≡ true → present_below t (i + 1) ≡ present_below t i ++ row_at t i ∷ []
  unfolding present_rows row_at
  below_more i e = rw (add-one i) (below_next i ∙ ap (λ (b : Bool). present_below t i ++ cond b (row_at t i ∷ []) []) e)

  pub below_same : (i : ℕ) → get_or t.present i false ≡ false → present_below t (i + 1) ≡ present_below t i
  unfolding present_rows row_at
  below_same i e = rw (add-one i) (below_next i ∙ ap (λ (b : Bool). present_below t i ++ cond b (row_at t i ∷ []) []) e ∙ append-nil (present_below t i))

  -- Those among the first n are those among the first i and some more.
  below_rest : (i n : ℕ) → i ≤ n → (rest : List Row) × (present_below t n ≡ present_below t i ++ rest)
  unfolding present_rows tab
  below_rest i zero h = ([], let e : i ≡ 0 = omega arith in rw e)
  below_rest i (suc n) h = ⊎_elim
      (λ l. let w = below_rest i n (omega arith) in
      (w.0 ++ present_rows (row_at t n ∷ []), below_next n ∙ ap (λ (l : List Row). l ++ present_rows (row_at t n ∷ [])) w.1 ∙ append_assoc (present_below t i) w.0 (present_rows (row_at t n ∷ []))))
      (λ l. ([], let e : suc n ≡ i = omega arith in ap (present_below t) e ∙ sym (append-nil (present_below t i))))
      (lt_or_le i (suc n))

  pub below_few : (i : ℕ) → i ≤ t.seeds → (length (present_below t i) ≤ length (present_rows (rows_of t))) × (pair_total (present_below t i) ≤ pair_total (present_rows (rows_of t)))
  unfolding rows_of
  below_few i h =
      let w = below_rest i t.seeds h in
      (omega (arith, ap length w.1, length-append (present_below t i) w.0), omega (arith, ap pair_total w.1, pairs_append (present_below t i) w.0))

  pub count_more : (i : ℕ) → get_or t.present i false ≡ true → length (present_below t (i + 1)) ≡ length (present_below t i) + 1
  count_more i e = ap length (below_more i e) ∙ length-append (present_below t i) (row_at t i ∷ [])

  module _ (h : Laid t) where
    pub seeds_few : length (present_rows (rows_of t)) ≤ 64
    seeds_few = omega (arith, (present_few (rows_of t)).0, rows_length t, h.few)

    pub pairs_few : pair_total (present_rows (rows_of t)) ≤ 1024
    pairs_few = omega (arith, (present_few (rows_of t)).1, rows_count t h, h.fit)

    pub total_more : (i : ℕ) → i < t.seeds → get_or t.present i false ≡ true → pair_total (present_below t (i + 1)) ≡ pair_total (present_below t i) + length (nodes_of t.qs t.bounds i)
    unfolding row_at
    total_more i l e = ap pair_total (below_more i e) ∙ pairs_one (present_below t i) (row_at t i) ∙ ap (λ (n : ℕ). pair_total (present_below t i) + n) (pairs_length t h i l)
