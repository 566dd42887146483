-- The seeds of a deck, judged one after another: turn by turn, and what they are if none is refused.
use mathlib.Core.Path.{◌≡◌, refl, sym, ap, ◌∙◌}
use mathlib.Core.Bool.{not}
use mathlib.Core.List.{List, [], ◌∷◌}
use Prim.Native.Nat.{ℕ, zero, suc, ◌+◌, ◌≤◌, ◌<◌}
use native.Mathlib.Numerals.{add-one}
use native.Mathlib.Omega.{arith}
use lib.ListN.{length, get_or, drop, drop_of_length-le}
use lib.Seq.{drop-cons}
use lib.IntN.{pos}
use borrow.Author.Tests.{not-false}
use Rattle.std.specs.Prelude.{Ok, Err}
use Rattle.answer.specs.Answer.{unless, Answer, Accepted}
use Rattle.answer.specs.Refusal.{result_of}
use Rattle.answer.specs.declared.Refusal.{Refusal}
use Rattle.answer.proofs.Denied.{denies}
use Rattle.answer.proofs.Given.{not_given, not_refused, unless_refused}
use Rattle.tree.specs.Nested.{Nested}
use Rattle.tree.specs.Reading.{IsTree, leaves_of}
use Rattle.tree.specs.declared.Tree.{Tree}
use Rattle.tree.proofs.Trees.{tree_nested}
use Rattle.seed.specs.Pairs.{pairs_of}
use Rattle.judge.proofs.Grounds.{accepts_seeds}
use Rattle.table.specs.Rows.{Row, new_row, no_row, in_range, AllHold}
use Rattle.table.specs.Table.{nodes_of, pairs_at, row_at, rows_of, Laid, Kept}
use Rattle.table.specs.declared.Table.{Table}
use Rattle.table.proofs.Tables.{rows_length, row_there, pairs_some}
use Rattle.dealing.specs.Seeds.{seed_answer, seeds_answer}
use Rattle.dealing.proofs.Results.{refused_by, accepted_by}

-- The loop over the seeds: those passed are accepted.
module _ (q t : Tree) (table : Table) where
  abbrev rows : List Row
  rows = rows_of table

  pub record Passed (i : ℕ) : Type 0 where
    pub few : i ≤ table.seeds
    pub rest : seeds_answer q t 1 (rows_of table) ≡ seeds_answer q t (i + 1) (drop i (rows_of table))

  pub seeds_start : Passed 0
  seeds_start = record { few = omega arith; rest = refl }

  pub seeds_end : (i : ℕ) → table.seeds ≤ i → Passed i → Ok (tt {0}) ≡ result_of (seeds_answer q t 1 (rows_of table)) (tt {0})
  unfolding seeds_answer
  seeds_end i l w =
      let past : length rows ≤ i = omega (arith, rows_length table) in
      ap (λ (a : Answer). result_of a tt) (sym (w.rest ∙ ap (seeds_answer q t (i + 1)) (drop_of_length-le rows past)))

  -- One turn: the answer of the seed at place i, from its nodes and its score.
  module _ (i : ℕ) (l : i < table.seeds) (w : Passed i) {qs ts : List ℕ} (is_q : qs ≡ nodes_of table.qs table.bounds i) (is_t : ts ≡ nodes_of table.ts table.bounds i) {a : Answer} (e : a ≡ seed_answer q t (i + 1) (new_row (pairs_of qs ts) (get_or table.scores i (pos 0)))) where
    ahead : drop i rows ≡ row_at table i ∷ drop (i + 1) rows
    ahead =
        drop-cons rows i no_row (omega (arith, rows_length table))
        ∙ ap (λ (x : Row). x ∷ drop (suc i) rows) (row_there table i l)
        ∙ ap (λ (k : ℕ). row_at table i ∷ drop k rows) (sym (add-one i))

    of_row : a ≡ seed_answer q t (i + 1) (row_at table i)
    unfolding row_at pairs_at
    of_row = rw (is_q, is_t) at e

    by_seed : seeds_answer q t 1 rows ≡ unless a (seeds_answer q t (suc (i + 1)) (drop (i + 1) rows))
    unfolding seeds_answer
    by_seed = w.rest ∙ ap (seeds_answer q t (i + 1)) ahead ∙ ap (λ (x : Answer). unless x (seeds_answer q t (suc (i + 1)) (drop (i + 1) rows))) (sym of_row)

    pub seeds_stop : {r : Refusal} → result_of a (tt {0}) ≡ Err r → Err r ≡ result_of (seeds_answer q t 1 (rows_of table)) (tt {0})
    seeds_stop f =
        let refused = refused_by a tt f in
        ap (λ (x : Answer). result_of x tt) (sym (by_seed ∙ unless_refused a _ (denies refused) ∙ refused))

    pub seeds_next : {u : Unit {0}} → result_of a (tt {0}) ≡ Ok u → Passed (i + 1)
    seeds_next f =
        let ok = accepted_by a tt f in
        record {
          few = omega arith;
          rest =
              by_seed
              ∙ ap (λ (x : Answer). unless x (seeds_answer q t (suc (i + 1)) (drop (i + 1) rows))) ok
              ∙ ap (λ (k : ℕ). seeds_answer q t k (drop (i + 1) rows)) (sym (add-one (i + 1)));
        }

-- Where none is refused, each is a seed with a score in range.
module _ (q t : Tree) (tree_q : Nested (leaves_of q)) (tree_t : Nested (leaves_of t)) where
  all_hold : (rows : List Row) (n : ℕ) → ((i : ℕ) → i < length rows → 0 < length (get_or rows i no_row).pairs) → seeds_answer q t n rows ≡ Accepted → AllHold q t rows
  unfolding seeds_answer
  all_hold [] n some e i l = absurd (omega arith)
  all_hold (r ∷ rows) n some e zero l =
      let first = (not_refused (seed_answer q t n r) _ e).0 in
      let passed = not_given (not (in_range r.score)) _ _ _ first in
      record {
        seed = (accepts_seeds q t tree_q tree_t r.pairs n (some 0 (omega arith))).0 passed.1;
        ranged = not-false (in_range r.score) passed.0;
      }
  all_hold (r ∷ rows) n some e (suc i) l =
      all_hold rows (suc n) (λ j m. some (suc j) (omega arith)) (not_refused (seed_answer q t n r) _ e).1 i (omega arith)

pub seeds_kept : (q t : Tree) (table : Table) → IsTree q → IsTree t → Laid table → seeds_answer q t 1 (rows_of table) ≡ Accepted → Kept q t table
unfolding row_at
seeds_kept q t table is_q is_t h e =
    record {
      is_q = is_q;
      is_t = is_t;
      laid = h;
      each = all_hold q t (tree_nested q is_q) (tree_nested t is_t) (rows_of table) 1
          (λ i l. let m : i < table.seeds = omega (arith, rows_length table) in rw (row_there table i m) (pairs_some table h i m)) e;
    }
