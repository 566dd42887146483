-- The table of some rows is filled, and its rows are those.
use mathlib.Core.Path.{◌≡◌, refl, sym, ap, subst, ◌∙◌}
use mathlib.Core.Bool.{Bool, true, false, cond}
use mathlib.Core.List.{List, [], ◌∷◌, ◌++◌, map, flatten, append_assoc}
use Prim.Native.Nat.{ℕ, suc, ◌+◌, ◌-◌, ◌≤◌, ◌<◌}
use native.Mathlib.Numerals.{add-one}
use native.Mathlib.Omega.{arith}
use lib.ListN.{length, get_or, take, drop, replicate, length-append, length-map, length-replicate, get_or-replicate, take-append-drop, get_or-append, get_or-map}
use lib.Seq.{split_at, length-take-le, take_at, drop_at, take-suc, take-length}
use lib.IntN.{ℤ, pos}
use Rattle.seed.specs.Pairs.{pairs_of}
use Rattle.seed.specs.declared.Pair.{Pair}
use Rattle.table.specs.Rows.{Row, no_row, present_rows, pairs_of_row}
use Rattle.table.specs.Table.{between, nodes_of, pairs_at, row_at, rows_of, Laid}
use Rattle.table.specs.declared.Table.{Table}
use Rattle.deck.specs.Deck.{chains_of}
use Rattle.deck.specs.inner.Walking.{padded}
use Rattle.deck.proofs.Lists.{map_append, flatten_append, flatten_more, length_padded, bounds_from, length_bounds, tab_elements}

-- The nodes of some seeds' pairs in one tree, one seed after another, and where each seed begins; zeros from their end on.
abbrev pub nodes_in : (Pair → ℕ) → List (List Pair) → List ℕ
nodes_in f chains = padded 1024 0 (map f (flatten chains))

abbrev pub bounds_in : {A : Type 0} → List (List A) → List ℕ
bounds_in chains = padded 65 0 (bounds_from 0 chains)

abbrev pub scores_of : List Row → List ℤ
scores_of rows = map (λ (r : Row). r.score) rows

-- The table of some rows, as reading fills it.
unfoldable pub table_of : List Row → Table
table_of rows = record {
  seeds = length rows;
  pairs = length (flatten (chains_of rows));
  qs = nodes_in (λ (p : Pair). p.q) (chains_of rows);
  ts = nodes_in (λ (p : Pair). p.t) (chains_of rows);
  bounds = bounds_in (chains_of rows);
  scores = padded 64 (pos 0) (scores_of rows);
  present = replicate 64 true;
}

get_d_padded : {A : Type 0} (n : ℕ) (z : A) (xs : List A) (i : ℕ) (e : A) → i < length xs → get_or (padded n z xs) i e ≡ get_or xs i e
unfolding padded
get_d_padded n z xs i e h = get_or-append xs (replicate (n - length xs) z) e i h

bounds_at : {A : Type 0} (k : ℕ) (front back : List (List A)) → get_or (bounds_from k (front ++ back)) (length front) 0 ≡ k + length (flatten front)
unfolding bounds_from flatten
bounds_at k [] [] = omega arith
bounds_at k [] (c ∷ cs) = omega arith
bounds_at k (b ∷ front) back = bounds_at (k + length b) front back ∙ omega (arith, length-append b (flatten front))

bound_at : (front back : List (List Pair)) → get_or (bounds_in (front ++ back)) (length front) 0 ≡ length (flatten front)
bound_at front back =
    get_d_padded 65 0 (bounds_from 0 (front ++ back)) (length front) 0 (omega (arith, length_bounds 0 (front ++ back), length-append front back))
    ∙ bounds_at 0 front back
    ∙ omega arith

pairs_of_lem : (ps : List Pair) → pairs_of (map (λ (p : Pair). p.q) ps) (map (λ (p : Pair). p.t) ps) ≡ ps
unfolding pairs_of
pairs_of_lem [] = refl
pairs_of_lem (p ∷ ps) = ap (λ (l : List Pair). p ∷ l) (pairs_of_lem ps)

-- A part of a list in an array.
between_part : (n : ℕ) (xs ys zs : List ℕ) → between (padded n 0 (xs ++ (ys ++ zs))) (length xs) (length xs + length ys) ≡ ys
unfolding between padded
between_part n xs ys zs =
    let rest : List ℕ = replicate (n - length (xs ++ (ys ++ zs))) 0 in
    let e : length xs + length ys - length xs ≡ length ys = omega arith in
    rw (append_assoc xs (ys ++ zs) rest, drop_at xs (ys ++ zs ++ rest) (length xs) refl, append_assoc ys zs rest, e) (take_at ys (zs ++ rest) (length ys) refl)

module _ (front : List (List Pair)) (c : List Pair) (back : List (List Pair)) where
  split_flat : flatten (front ++ c ∷ back) ≡ flatten front ++ (c ++ flatten back)
  unfolding flatten
  split_flat = flatten_append front (c ∷ back)

  next_bound : get_or (bounds_in (front ++ c ∷ back)) (length front + 1) 0 ≡ length (flatten front) + length c
  next_bound =
      let e : front ++ c ∷ [] ++ back ≡ front ++ c ∷ back = append_assoc front (c ∷ []) back in
      let l : length (front ++ c ∷ []) ≡ length front + 1 = length-append front (c ∷ []) in
      subst (λ (n : ℕ). get_or (bounds_in (front ++ c ∷ back)) n 0 ≡ length (flatten front) + length c) l
      (subst (λ (cs : List (List Pair)). get_or (bounds_in cs) (length (front ++ c ∷ [])) 0 ≡ length (flatten front) + length c) e
      (bound_at (front ++ c ∷ []) back ∙ ap length (flatten_more front c) ∙ length-append (flatten front) c))

  part_is : (f : Pair → ℕ) → between (nodes_in f (front ++ c ∷ back)) (length (flatten front)) (length (flatten front) + length c) ≡ map f c
  part_is f =
      let e : map f (flatten (front ++ c ∷ back)) ≡ map f (flatten front) ++ (map f c ++ map f (flatten back)) = ap (map f) split_flat ∙ map_append f (flatten front) (c ++ flatten back) ∙ ap (λ (l : List ℕ). map f (flatten front) ++ l) (map_append f c (flatten back)) in
      rw (e, ← length-map (flatten front) f, ← length-map c f) (between_part 1024 (map f (flatten front)) (map f c) (map f (flatten back)))

  nodes_there : (f : Pair → ℕ) → nodes_of (nodes_in f (front ++ c ∷ back)) (bounds_in (front ++ c ∷ back)) (length front) ≡ map f c
  unfolding nodes_of
  nodes_there f = rw (bound_at front (c ∷ back), next_bound) (part_is f)

-- Seeds that a table has room for.
pub record Storable (chains : List (List Pair)) : Type 0 where
  pub seeds : length chains ≤ 64
  pub pairs : length (flatten chains) ≤ 1024
  pub some : (i : ℕ) → i < length chains → 0 < length (get_or chains i [])

module _ (chains : List (List Pair)) where
  bound_is : (i : ℕ) → i ≤ length chains → get_or (bounds_in chains) i 0 ≡ length (flatten (take i chains))
  bound_is i h =
      subst (λ (n : ℕ). get_or (bounds_in chains) n 0 ≡ length (flatten (take i chains))) (length-take-le i chains h)
      (subst (λ (cs : List (List Pair)). get_or (bounds_in cs) (length (take i chains)) 0 ≡ length (flatten (take i chains))) (take-append-drop i chains) (bound_at (take i chains) (drop i chains)))

  bound_within : (i : ℕ) → i ≤ length chains → length (flatten (take i chains)) ≤ length (flatten chains)
  bound_within i h = subst (λ (cs : List (List Pair)). length (flatten (take i chains)) ≤ length (flatten cs)) (take-append-drop i chains)
      (rw (flatten_append (take i chains) (drop i chains), length-append (flatten (take i chains)) (flatten (drop i chains))) (omega arith))

  bound_next : (i : ℕ) → i < length chains → length (flatten (take (i + 1) chains)) ≡ length (flatten (take i chains)) + length (get_or chains i [])
  bound_next i h =
      rw (add-one i, take-suc chains i [] h, flatten_more (take i chains) (get_or chains i [])) (length-append (flatten (take i chains)) (get_or chains i []))

  nodes_at : (f : Pair → ℕ) (i : ℕ) → i < length chains → nodes_of (nodes_in f chains) (bounds_in chains) i ≡ map f (get_or chains i [])
  nodes_at f i h =
      let e : chains ≡ take i chains ++ get_or chains i [] ∷ drop (suc i) chains = split_at chains i [] h in
      subst (λ (n : ℕ). nodes_of (nodes_in f chains) (bounds_in chains) n ≡ map f (get_or chains i [])) (length-take-le i chains (omega arith))
      (subst (λ (cs : List (List Pair)). nodes_of (nodes_in f cs) (bounds_in cs) (length (take i chains)) ≡ map f (get_or chains i [])) (sym e) (nodes_there (take i chains) (get_or chains i []) (drop (suc i) chains) f))

  array_room : (f : Pair → ℕ) → length (flatten chains) ≤ 1024 → length (nodes_in f chains) ≡ 1024
  array_room f h = length_padded 1024 0 (map f (flatten chains)) (rw (length-map (flatten chains) f) h)

module _ (rows : List Row) (s : Storable (chains_of rows)) where
  as_many : length (chains_of rows) ≡ length rows
  as_many = length-map rows pairs_of_row

  pub laid : Laid (table_of rows)
  unfolding table_of flatten
  laid =
      let chains : List (List Pair) = chains_of rows in
      record {
        few = omega (arith, as_many, s.seeds);
        fit = s.pairs;
        first = bound_is chains 0 (omega arith);
        last = rw (← as_many) (bound_is chains (length chains) (omega arith) ∙ rw (take-length chains));
        rising = λ i h. rw (bound_is chains i (omega (arith, as_many)), bound_is chains (i + 1) (omega (arith, as_many)), bound_next chains i (omega (arith, as_many))) (omega (arith, s.some i (omega (arith, as_many))));
        within = λ i h. rw (bound_is chains i (omega (arith, as_many))) (bound_within chains i (omega (arith, as_many)));
        room_q = array_room chains (λ (p : Pair). p.q) s.pairs;
        room_t = array_room chains (λ (p : Pair). p.t) s.pairs;
        room_bounds = length_padded 65 0 (bounds_from 0 chains) (omega (arith, length_bounds 0 chains, s.seeds));
        room_scores = length_padded 64 (pos 0) (scores_of rows) (rw (length-map rows (λ (r : Row). r.score)) (omega (arith, as_many, s.seeds)));
        room_present = length-replicate 64 true;
      }

  -- The rows of that table are those, if they are present.
  pub rows_are : ((i : ℕ) → i < length rows → (get_or rows i no_row).present ≡ true) → rows_of (table_of rows) ≡ rows
  unfolding rows_of row_at pairs_at table_of
  rows_are there = tab_elements (length rows) _ rows no_row refl (λ i h. λ j. record { pairs = pairs i h j; score = score i h j; present = present i h j })
    where
      score : (i : ℕ) → i < length rows → get_or (padded 64 (pos 0) (scores_of rows)) i (pos 0) ≡ (get_or rows i no_row).score
      score i h = get_d_padded 64 (pos 0) (scores_of rows) i (pos 0) (rw (length-map rows (λ (r : Row). r.score)) h) ∙ get_or-map (λ (r : Row). r.score) rows i no_row

      chain : (i : ℕ) → get_or (chains_of rows) i [] ≡ (get_or rows i no_row).pairs
      chain i = get_or-map pairs_of_row rows i no_row

      pairs : (i : ℕ) → i < length rows → pairs_of (nodes_of (nodes_in (λ (p : Pair). p.q) (chains_of rows)) (bounds_in (chains_of rows)) i) (nodes_of (nodes_in (λ (p : Pair). p.t) (chains_of rows)) (bounds_in (chains_of rows)) i) ≡ (get_or rows i no_row).pairs
      pairs i h =
          let l : i < length (chains_of rows) = rw as_many h in
          rw (nodes_at (chains_of rows) (λ (p : Pair). p.q) i l, nodes_at (chains_of rows) (λ (p : Pair). p.t) i l) (pairs_of_lem (get_or (chains_of rows) i []) ∙ chain i)

      present : (i : ℕ) → i < length rows → get_or (replicate 64 true) i false ≡ (get_or rows i no_row).present
      present i h = get_or-replicate 64 i true false (omega (arith, as_many, s.seeds)) ∙ sym (there i h)

pub all_present : (rows : List Row) → ((i : ℕ) → i < length rows → (get_or rows i no_row).present ≡ true) → present_rows rows ≡ rows
unfolding present_rows
all_present [] there = refl
all_present (r ∷ rows) there =
    ap (λ (b : Bool). cond b (r ∷ present_rows rows) (present_rows rows)) (there 0 (omega arith))
    ∙ ap (λ (l : List Row). r ∷ l) (all_present rows (λ i h. there (suc i) (omega arith)))
