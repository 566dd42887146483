-- A list of pairs judged as the next seed of a table, and the rows with it.
use Rattle.std.specs.Prelude.{◌≡◌, true, not, List, [], ◌∷◌, ◌++◌, ℕ, ◌+◌, ◌≤◌, ◌<◌, length, ℤ, leb, ltb, eqb, Result, IfOk}
use Rattle.answer.specs.Answer.{given, unless, Answer, Accepted}
use Rattle.answer.specs.declared.Ground.TheVariants.{ScoreRange, NoPairs, SeedLimit, PairLimit}
use Rattle.answer.specs.declared.Place.TheVariants.{Seed}
use Rattle.tree.specs.declared.Tree.{Tree}
use Rattle.seed.specs.Seed as seed
use Rattle.seed.specs.declared.Pair.{Pair}
use Rattle.judge.specs.Judge.{judge_of}
use Rattle.table.specs.Rows.{Row, new_row, pairs_in_all, in_range}
use Rattle.table.specs.Table.{rows_of, Kept}
use Rattle.table.specs.declared.Table.{Table}
use Rattle.answer.specs.Refusal.{answer_in}
use Rattle.answer.specs.declared.Refusal.{Refusal}

-- A list that is a seed of two trees and keeps the limits of a table with these rows.
pub record Addable (q t : Tree) (rows : List Row) (ps : List Pair) (z : ℤ) : Type 0 where
  pub ranged : in_range z ≡ true
  pub seed_room : length rows < 64
  pub pair_room : pairs_in_all rows + length ps ≤ 1024
  pub seed : seed.Seed q t ps

-- Grounds 11 to 14 of a seed with so many pairs, for a table of so many seeds and pairs. The seed would get the number after the last.
unfoldable pub limit_answer : ℕ → ℕ → ℕ → ℤ → Answer
limit_answer seeds pairs count z =
    given (not (in_range z)) ScoreRange (Seed (seeds + 1))
    (given (eqb count 0) NoPairs (Seed (seeds + 1))
    (given (leb 64 seeds) SeedLimit (Seed (seeds + 1))
    (given (ltb 1024 (pairs + count)) PairLimit (Seed (seeds + 1)) Accepted)))

-- Grounds 11 to 14 of a list, then 15, 25 and 16 to 19.
unfoldable pub next_answer : Tree → Tree → List Row → List Pair → ℤ → Answer
next_answer q t rows ps z = unless (limit_answer (length rows) (pairs_in_all rows) (length ps) z) (judge_of q t ps (length rows + 1))

-- What adding a list promises: its answer, and if it is accepted the next table, with one present row more.
pub record Grows (q t : Tree) (table : Table) (ps : List Pair) (z : ℤ) (r : Result Table Refusal) : Type 0 where
  pub answers : answer_in r ≡ next_answer q t (rows_of table) ps z
  pub accepted : IfOk r (λ next. rows_of next ≡ rows_of table ++ new_row ps z ∷ [])
  pub kept : IfOk r (λ next. Kept q t next)
