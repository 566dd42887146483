-- What the inner functions of the report promise: where a line ends, and the lines of a best chain.
use Rattle.std.specs.Prelude.{◌≡◌, Bool, List, ℕ, length, replicate, eqb, Result}
use Rattle.answer.specs.Answer.{decide}
use Rattle.answer.specs.Refusal.{result_of}
use Rattle.answer.specs.declared.Refusal.{Refusal}
use Rattle.chain.specs.Acts.{best_chain, grounds}
use Rattle.chain.specs.State.{State}
use Rattle.lines.specs.Lines.{printed}
use Rattle.lines.specs.declared.Lines.{Lines}
use Rattle.report.specs.Report.{chain_lines}

-- A line feed.
abbrev pub is_feed : ℕ → Bool
is_feed byte = eqb byte 10

-- The lines of a session's best chain, or ground 21; the scratch is zero once it was worked out.
pub record ChainPrinted (s : State) (scratch scratch' : List ℕ) (r : Result Lines Refusal) : Type 0 where
  pub prints : r ≡ result_of (grounds s (best_chain (length scratch))) (printed (chain_lines s))
  pub zeros : scratch' ≡ decide (grounds s (best_chain (length scratch))) (replicate (length scratch) 0) scratch
