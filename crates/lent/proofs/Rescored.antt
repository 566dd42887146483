-- What the contract of `rescore` means: the seed changes nowhere but in its score.
use mathlib.Core.Path.{◌≡◌, sym, ap, ◌∙◌}
use mathlib.Core.Logic.{◌≢◌}
use mathlib.Core.List.{List}
use Prim.Native.Nat.{ℕ, ◌-◌, ◌≤◌}
use native.Mathlib.Omega.{arith}
use lib.IntN.{ℤ}
use lib.ListN.{length, length-set}
use lib.Seq.{get_or-set_same, get_or-set_other}
use Rattle.answer.specs.Answer.{Answer, Accepted}
use Rattle.table.specs.Rows.{Row, no_row, row_of, with_row, with_score}
use Rattle.table.specs.Table.{rows_of}
use Rattle.chain.specs.State.{State, changed}
use Rattle.chain.specs.Acts.{rescore, rescore_answer, step}
use Rattle.chain.specs.View.{view, Does}
use Rattle.chain.specs.declared.Session.{Session}
use Rattle.lent.specs.Rescored.{OnlyScore, Rescored}
use Rattle.chain.proofs.Judges.{Given, rescore_passed, rescorable}

module _ (s next : Session) (k : ℕ) (z : ℤ) (a : Answer) (d : Does s (rescore k z) a next) (ok : a ≡ Accepted) where
  passed : rescore_answer (view s) k z ≡ Accepted
  passed = rescore_passed (view s) k z (sym d.answers ∙ ok)

  number : Given (length (rows_of s.table)) k
  number = (rescorable (view s) k z passed).number

  state : view next ≡ changed (view s) (with_row (rows_of s.table) k (with_score (row_of (rows_of s.table) k) z))
  state = d.leaves ∙ ap (step (view s) (rescore k z)) ok

  rows : rows_of next.table ≡ with_row (rows_of s.table) k (with_score (row_of (rows_of s.table) k) z)
  rows = ap (λ (x : State). x.rows) state

  row : row_of (rows_of next.table) k ≡ with_score (row_of (rows_of s.table) k) z
  unfolding row_of with_row
  row = ap (λ (t : List Row). row_of t k) rows ∙ get_or-set_same (rows_of s.table) (k - 1) _ no_row (omega (arith, number))

  other : (j : ℕ) → 1 ≤ j → j ≢ k → row_of (rows_of next.table) j ≡ row_of (rows_of s.table) j
  unfolding row_of with_row
  other j low ne = ap (λ (t : List Row). row_of t j) rows ∙ get_or-set_other (rows_of s.table) (k - 1) (j - 1) _ no_row (λ e. ne (omega (arith, number, low)))

  same_length : length (rows_of next.table) ≡ length (rows_of s.table)
  unfolding with_row
  same_length = ap length rows ∙ length-set (rows_of s.table) (k - 1) _

  only_score : OnlyScore s k z next
  only_score =
      record {
        tree_q = ap (λ (x : State). x.q) state;
        tree_t = ap (λ (x : State). x.t) state;
        seeds = same_length;
        others = other;
        pairs = ap (λ (r : Row). r.pairs) row;
        present = ap (λ (r : Row). r.present) row;
        score = ap (λ (r : Row). r.score) row;
        changes = ap (λ (x : State). x.changes) state;
      }

pub rescored_only : (s next : Session) (k : ℕ) (z : ℤ) (a : Answer) → Does s (rescore k z) a next → Rescored s k z a next
rescored_only s next k z a d = record { accepted = only_score s next k z a d; refused = d.refused }
