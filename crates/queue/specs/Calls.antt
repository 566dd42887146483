-- Lists of offers and turns, the first call first: the state that they leave, and what they accepted and took.
use Rattle.std.specs.Prelude.{Bool, true, false, cond, List, [], ◌∷◌, ◌++◌, ℕ, suc, Option, Some, None}
use Rattle.answer.specs.Answer.{decide}
use Rattle.queue.specs.Jobs.{QueueState, started, offer_answer, after_offer, turn_of, after_turn}
use Rattle.queue.specs.declared.Job.{Job}
use Rattle.queue.specs.declared.Kind.{Kind}
use Rattle.queue.specs.declared.Kind.TheVariants.{Urgent, Ordinary}
use Rattle.queue.specs.declared.Taken.{Taken}

pub data Call : Type 0 where
  offer : Kind → Job → Call
  turn : Call

abbrev pub after_call : Call → QueueState → QueueState
after_call (offer kind job) s = after_offer kind job s
after_call turn s = after_turn s

-- The state after a list of calls from another, and from the start.
unfoldable pub state_after : List Call → QueueState → QueueState
state_after [] s = s
state_after (call ∷ calls) s = state_after calls (after_call call s)

unfoldable pub state_from_start : List Call → QueueState
state_from_start calls = state_after calls started

-- How many turns are among the calls.
unfoldable pub turns_in : List Call → ℕ
turns_in [] = 0
turns_in (offer kind job ∷ calls) = turns_in calls
turns_in (turn ∷ calls) = suc (turns_in calls)

abbrev pub of_kind : Kind → Kind → Bool
of_kind Urgent Urgent = true
of_kind Urgent Ordinary = false
of_kind Ordinary Urgent = false
of_kind Ordinary Ordinary = true

-- The jobs of one kind that a call accepted, and that a turn took: one or none.
abbrev pub accepted_by : Kind → Call → QueueState → List Job
accepted_by kind (offer other job) s = decide (offer_answer s) (cond (of_kind kind other) (job ∷ []) []) []
accepted_by kind turn s = []

abbrev pub jobs_in : Kind → Option Taken → List Job
jobs_in kind None = []
jobs_in kind (Some taken) = cond (of_kind kind taken.kind) (taken.job ∷ []) []

abbrev pub taken_by : Kind → Call → QueueState → List Job
taken_by kind (offer other job) s = []
taken_by kind turn s = jobs_in kind (turn_of s)

-- The jobs of one kind that a list of calls from a state accepted, in their order, and those that it took.
unfoldable pub accepted_in : Kind → List Call → QueueState → List Job
accepted_in kind [] s = []
accepted_in kind (call ∷ calls) s = accepted_by kind call s ++ accepted_in kind calls (after_call call s)

unfoldable pub taken_in : Kind → List Call → QueueState → List Job
taken_in kind [] s = []
taken_in kind (call ∷ calls) s = taken_by kind call s ++ taken_in kind calls (after_call call s)
