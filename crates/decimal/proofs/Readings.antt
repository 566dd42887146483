-- What reading answers, test by test.
use mathlib.Core.Path.{◌≡◌}
use mathlib.Core.Bool.{true, false, ◌&&◌}
use mathlib.Core.List.{List}
use Prim.Native.Nat.{ℕ}
use lib.Dec.{eqb}
use Rattle.std.specs.Prelude.{Ok, Err}
use Rattle.answer.specs.Refusal.{refusal_at}
use Rattle.answer.specs.declared.Ground.TheVariants.{ScoreText}
use Rattle.answer.specs.declared.Place.TheVariants.{Nothing}
use Rattle.table.specs.Rows.{in_range}
use Rattle.decimal.specs.Score.{minus_first, behind_minus, unsigned_form, unsigned_number, score_form, number_in, is_score, score_read}

module _ (s : List ℕ) where
  pub score_other : unsigned_form (behind_minus s) ≡ false → Err (refusal_at ScoreText Nothing) ≡ score_read s
  unfolding score_read is_score score_form
  score_other e = rw e

  module _ (form : unsigned_form (behind_minus s) ≡ true) where
    pub score_minus : (minus_first s && eqb (unsigned_number (behind_minus s)) 0) ≡ true → Err (refusal_at ScoreText Nothing) ≡ score_read s
    unfolding score_read is_score score_form
    score_minus e = rw (form, e)

    module _ (minus : (minus_first s && eqb (unsigned_number (behind_minus s)) 0) ≡ false) where
      pub score_out : in_range (number_in s) ≡ false → Err (refusal_at ScoreText Nothing) ≡ score_read s
      unfolding score_read is_score score_form
      score_out e = rw (form, minus, e)

      pub score_in : in_range (number_in s) ≡ true → Ok (number_in s) ≡ score_read s
      unfolding score_read is_score score_form
      score_in e = rw (form, minus, e)
