-- The program's work: the lines of an input, and what is left in the lent memory.
use Rattle.std.specs.Prelude.{◌≡◌, Bool, cond, ◌||◌, List, ℕ, length, replicate, ltb, Result, Ok, Err}
use Rattle.answer.specs.Answer.{said, Answer, Accepted, Refused}
use Rattle.answer.specs.Refusal.{refusal_at}
use Rattle.answer.specs.declared.Refusal.{Refusal}
use Rattle.answer.specs.declared.Ground.TheVariants.{ScratchShort}
use Rattle.answer.specs.declared.Place.TheVariants.{Nothing}
use Rattle.write.specs.Wrote.{with_bytes}
use Rattle.best.specs.Best.{scratch_needed}
use Rattle.chain.specs.State.{State}
use Rattle.chain.specs.Opening.{Outcome, deck_opening}
use Rattle.chain.specs.Looking.{best_in}
use Rattle.lines.specs.Lines.{result_lines, refusal_line, lines_room, printed}
use Rattle.lines.specs.declared.Lines.{Lines}
use Rattle.report.specs.Input.{text_q, text_t, deck_bytes}

-- The session is opened on the input's Q, T and deck.
unfoldable pub outcome_of : List ℕ → Outcome
outcome_of input = deck_opening (text_q input) (text_t input) (deck_bytes input)

-- Two lines for an accepted opening, the total and the chain of its best chain; one for a refusal.
abbrev pub chain_lines : State → List ℕ
chain_lines s = result_lines (best_in s).total (best_in s).chain

abbrev pub lines_by : Answer → State → List ℕ
lines_by Accepted s = chain_lines s
lines_by (Refused g p) s = refusal_line (said (Refused g p))

unfoldable pub lines_of : List ℕ → List ℕ
lines_of input = lines_by (outcome_of input).answer (outcome_of input).state

-- What is answered of an input on a scratch of so many numbers: its lines are printed whether its opening is accepted or refused.
unfoldable pub report_of : List ℕ → ℕ → Result Lines Refusal
report_of input room = cond (ltb room scratch_needed) (Err (refusal_at ScratchShort Nothing)) (Ok (printed (lines_of input)))

-- The scratch is zero once best chain has run, and as it was if the opening was refused.
abbrev pub zeroed_by : Answer → List ℕ → List ℕ
zeroed_by Accepted xs = replicate (length xs) 0
zeroed_by (Refused g p) xs = xs

-- And as it was on ground 21.
unfoldable pub scratch_left : List ℕ → List ℕ → List ℕ
scratch_left input xs = cond (ltb (length xs) scratch_needed) xs (zeroed_by (outcome_of input).answer xs)

-- What a report promises of its result and of the scratch before and after.
pub record Reports (input scratch scratch' : List ℕ) (r : Result Lines Refusal) : Type 0 where
  pub answers : r ≡ report_of input (length scratch)
  pub leaves_scratch : scratch' ≡ scratch_left input scratch

-- For C and Rust the lines are put to an output: not if it is shorter than what holds every report, or the scratch too short.
unfoldable pub memory_short : List ℕ → List ℕ → Bool
memory_short scratch out = ltb (length out) lines_room || ltb (length scratch) scratch_needed

-- How many bytes are written, and what is left: with too little memory 0, and all of it as it was.
pub record ReportPut (input scratch scratch' out out' : List ℕ) (n : ℕ) : Type 0 where
  pub count : n ≡ cond (memory_short scratch out) 0 (length (lines_of input))
  pub leaves_scratch : scratch' ≡ cond (memory_short scratch out) scratch (scratch_left input scratch)
  pub output_left : out' ≡ cond (memory_short scratch out) out (with_bytes (lines_of input) out)
