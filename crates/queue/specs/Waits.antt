-- How long a job waits: turns are counted, however many offers stand between them.
use Rattle.std.specs.Prelude.{◌≡◌, List, ◌∷◌, ◌++◌, ℕ, ◌+◌, ◌≤◌}
use Rattle.queue.specs.Jobs.{took, turn_of}
use Rattle.queue.specs.Calls.{Call, turn, state_from_start, turns_in, taken_in}
use Rattle.queue.specs.declared.Job.{Job}
use Rattle.queue.specs.declared.Kind.{Kind}

-- Of the calls behind those of the history, the n-th turn, which comes behind these, takes this job: of its kind just the jobs that stood ahead
-- of it were taken before, in their order.
pub record TakenAt (n : ℕ) (kind : Kind) (ahead : List Job) (job : Job) (history before : List Call) : Type 0 where
  pub turns : turns_in before + 1 ≡ n
  pub ahead_first : taken_in kind before (state_from_start history) ≡ ahead
  pub taken : turn_of (state_from_start (history ++ before)) ≡ took kind job

-- The job is "taken within" n turns.
pub record TakenWithin (n : ℕ) (kind : Kind) (ahead : List Job) (job : Job) (history calls : List Call) : Type 0 where
  pub before : List Call
  pub behind : List Call
  pub apart : calls ≡ before ++ turn ∷ behind
  pub at : ℕ
  pub soon : at ≤ n
  pub there : TakenAt at kind ahead job history before
