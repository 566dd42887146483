-- What is answered of a list that is to be a table's next seed, in each case of the code, and what an accepted one is.
use mathlib.Core.Path.{◌≡◌, refl, sym, ap, ◌∙◌}
use mathlib.Core.Bool.{true}
use mathlib.Core.Logic.{◌↔◌}
use mathlib.Core.List.{List, [], ◌∷◌, ◌++◌}
use Prim.Native.Nat.{ℕ, ◌+◌, ◌≤◌, ◌<◌}
use native.Mathlib.Omega.{arith}
use lib.ListN.{length, take}
use Rattle.std.proofs.Common.{Result, Ok, Err}
use lib.Seq.{length-take-le}
use lib.IntN.{ℤ}
use borrow.Author.Tests.{leb-false, ltb-false, eqb-false, not-false, le-ltb, lt-leb, ne_eqb}
use Rattle.answer.specs.Answer.{unless, Accepted, Refused}
use Rattle.answer.specs.Refusal.{result_of}
use Rattle.answer.specs.declared.Refusal.{Refusal}
use Rattle.answer.proofs.Given.{not_given, not_refused}
use Rattle.tree.specs.Nested.{Nested}
use Rattle.tree.specs.Reading.{leaves_of}
use Rattle.tree.specs.declared.Tree.{Tree}
use Rattle.tree.proofs.Trees.{tree_nested}
use Rattle.seed.specs.Pairs.{pair_of, pairs_of}
use Rattle.seed.specs.declared.Pair.{Pair}
use Rattle.seed.proofs.PairLists.{count_most}
use Rattle.judge.specs.Judge.{judge_of}
use Rattle.judge.proofs.Grounds.{accepts_seeds}
use Rattle.table.specs.Rows.{Row, new_row, pairs_in_all, in_range}
use Rattle.table.specs.Table.{rows_of, Kept}
use Rattle.table.specs.declared.Table.{Table}
use Rattle.table.proofs.Tables.{rows_length, rows_count}
use Rattle.table.proofs.Held.{all_more}
use Rattle.adding.specs.Adding.{limit_answer, next_answer, Grows, Addable}
use Rattle.adding.specs.inner.Appending.{with_seed, SeedRoom}
use Rattle.adding.proofs.Appended.{laid_new, rows_new}

-- The limits that an accepted seed keeps.
record Limits (seeds pairs count : ℕ) (z : ℤ) : Type 0 where
  ranged : in_range z ≡ true
  some : 1 ≤ count
  seed_room : seeds < 64
  pair_room : pairs + count ≤ 1024

limits_kept : (seeds pairs count : ℕ) (z : ℤ) → limit_answer seeds pairs count z ≡ Accepted → Limits seeds pairs count z
unfolding limit_answer
limits_kept seeds pairs count z e =
    let a = not_given _ _ _ _ e in
    let b = not_given _ _ _ _ a.1 in
    let c = not_given _ _ _ _ b.1 in
    let d = not_given _ _ _ _ c.1 in
    let ne = eqb-false count 0 b.0 in
    record {
      ranged = not-false (in_range z) a.0;
      some = omega (arith, ne);
      seed_room = leb-false 64 seeds c.0;
      pair_room = ltb-false 1024 (pairs + count) d.0;
    }

keeps_limits : (seeds pairs count : ℕ) (z : ℤ) → Limits seeds pairs count z → limit_answer seeds pairs count z ≡ Accepted
unfolding limit_answer
keeps_limits seeds pairs count z w =
    rw (
      w.ranged,
      ne_eqb count 0 (λ e. absurd (omega (arith, w.some, e))),
      lt-leb 64 seeds w.seed_room,
      le-ltb 1024 (pairs + count) w.pair_room,
    )

-- A list is accepted exactly if it is a seed within the limits.
module _ (q t : Tree) (tree_q : Nested (leaves_of q)) (tree_t : Nested (leaves_of t)) (rows : List Row) (ps : List Pair) (z : ℤ) where
  addable : next_answer q t rows ps z ≡ Accepted → Addable q t rows ps z
  unfolding next_answer
  addable e =
      let a = not_refused (limit_answer (length rows) (pairs_in_all rows) (length ps) z) _ e in
      let w = limits_kept (length rows) (pairs_in_all rows) (length ps) z a.0 in
      record {
        ranged = w.ranged;
        seed_room = w.seed_room;
        pair_room = w.pair_room;
        seed = (accepts_seeds q t tree_q tree_t ps (length rows + 1) w.some).0 a.1;
      }

  adds : Addable q t rows ps z → next_answer q t rows ps z ≡ Accepted
  unfolding next_answer
  adds w =
      rw (
        keeps_limits (length rows) (pairs_in_all rows) (length ps) z record { ranged = w.ranged; some = w.seed.pattern.some; seed_room = w.seed_room; pair_room = w.pair_room },
        (accepts_seeds q t tree_q tree_t ps (length rows + 1) w.seed.pattern.some).1 w.seed,
      )

  pub next_exactly : (next_answer q t rows ps z ≡ Accepted) ↔ Addable q t rows ps z
  next_exactly = (addable, adds)

-- The answer, by the table's fields: refused by the limits, or what the judge says.
module _ (q t : Tree) (table : Table) (ps : List Pair) (z : ℤ) (h : Kept q t table) {n : ℕ} (count : n ≡ length ps) where
  by_limits : next_answer q t (rows_of table) ps z ≡ unless (limit_answer table.seeds table.pairs n z) (judge_of q t ps (table.seeds + 1))
  unfolding next_answer
  by_limits = rw (count, rows_length table, rows_count table h.laid)

  pub next_limited : {r : Refusal} → Refused r.ground r.place ≡ limit_answer table.seeds table.pairs n z → ◌≡◌ {A = Result (Unit {0}) Refusal} (Err r) (result_of (next_answer q t (rows_of table) ps z) tt)
  next_limited e = rw (by_limits, ← e) refl

  pub next_judged : Accepted ≡ limit_answer table.seeds table.pairs n z → {r : Result (Unit {0}) Refusal} → r ≡ result_of (judge_of q t ps (table.seeds + 1)) tt → r ≡ result_of (next_answer q t (rows_of table) ps z) tt
  next_judged ok e = rw (by_limits, ← ok) e

-- Two lists cut to the pairs that they have are the same pairs.
pairs_cut : (a b : List ℕ) → pairs_of (take (length (pairs_of a b)) a) (take (length (pairs_of a b)) b) ≡ pairs_of a b
unfolding pairs_of
pairs_cut [] b = refl
pairs_cut (x ∷ a) [] = refl
pairs_cut (x ∷ a) (y ∷ b) = ap (λ (ps : List Pair). pair_of x y ∷ ps) (pairs_cut a b)

pub cut_q : (qs ts : List ℕ) (n : ℕ) → n ≡ length (pairs_of qs ts) → n ≡ length (take n qs)
cut_q qs ts n e = sym (length-take-le n qs (omega (arith, count_most qs ts)))

pub cut_t : (qs ts : List ℕ) (n : ℕ) → n ≡ length (pairs_of qs ts) → n ≡ length (take n ts)
cut_t qs ts n e = sym (length-take-le n ts (omega (arith, count_most qs ts)))

-- The whole call: two lists of any lengths, cut to the n pairs that they have.
module _ (q t : Tree) (table : Table) (qs ts : List ℕ) (z : ℤ) (h : Kept q t table) where
  pub grows_not : {r : Refusal} → Refused r.ground r.place ≡ next_answer q t (rows_of table) (pairs_of qs ts) z → Grows q t table (pairs_of qs ts) z (Err r)
  grows_not e = record { answers = e; accepted = tt; kept = tt }

  module _ (ok : Accepted ≡ next_answer q t (rows_of table) (pairs_of qs ts) z) (n : ℕ) (count : n ≡ length (pairs_of qs ts)) where
    known : Addable q t (rows_of table) (pairs_of qs ts) z
    known = addable q t (tree_nested q h.is_q) (tree_nested t h.is_t) (rows_of table) (pairs_of qs ts) z (sym ok)

    pub add_room : SeedRoom table (take n qs) (take n ts)
    add_room =
        let lq = cut_q qs ts n count in
        let lt = cut_t qs ts n count in
        let w = known in
        record {
          laid = h.laid;
          some = omega (arith, w.seed.pattern.some);
          even = omega arith;
          seed_room = omega (arith, w.seed_room, rows_length table);
          pair_room = omega (arith, w.pair_room, rows_count table h.laid);
        }

    cut : pairs_of (take n qs) (take n ts) ≡ pairs_of qs ts
    cut = ap (λ (k : ℕ). pairs_of (take k qs) (take k ts)) count ∙ pairs_cut qs ts

    pub grows : {r : Table} → r ≡ with_seed table (take n qs) (take n ts) z → Grows q t table (pairs_of qs ts) z (Ok r)
    grows is =
        let rows = rows_new table (take n qs) (take n ts) z add_room ∙ ap (λ (ps : List Pair). rows_of table ++ new_row ps z ∷ []) cut in
        rw is record {
          answers = ok;
          accepted = rows;
          kept = record {
            is_q = h.is_q;
            is_t = h.is_t;
            laid = laid_new table (take n qs) (take n ts) z add_room;
            each = rw rows (all_more q t (rows_of table) (new_row (pairs_of qs ts) z) h.each record { seed = known.seed; ranged = known.ranged });
          };
        }
