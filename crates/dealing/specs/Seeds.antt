-- The seeds of a deck judged one after another, by grounds 11, 15, 25 and 16 to 19.
use Rattle.std.specs.Prelude.{not, List, [], ◌∷◌, ℕ, suc}
use Rattle.answer.specs.Answer.{given, unless, Answer, Accepted}
use Rattle.answer.specs.declared.Ground.TheVariants.{ScoreRange}
use Rattle.answer.specs.declared.Place.TheVariants.{Seed}
use Rattle.tree.specs.declared.Tree.{Tree}
use Rattle.judge.specs.Judge.{judge_of}
use Rattle.table.specs.Rows.{Row, in_range}

-- A deck's seeds pass 11, 15, 25 and 16 to 19 one seed at a time, the first of them number n. Grounds 12, 13, 14 and 20 never hold of a deck that
-- was read: each of its at most 64 seeds has a pair, and together they have at most 1,024.
abbrev pub seed_answer : Tree → Tree → ℕ → Row → Answer
seed_answer q t n row = given (not (in_range row.score)) ScoreRange (Seed n) (judge_of q t row.pairs n)

unfoldable pub seeds_answer : Tree → Tree → ℕ → List Row → Answer
seeds_answer q t n [] = Accepted
seeds_answer q t n (row ∷ rows) = unless (seed_answer q t n row) (seeds_answer q t (suc n) rows)
