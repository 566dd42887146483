-- The queues that the start and later calls hand over, by the list of those calls, and what each call promises.
use Rattle.std.specs.Prelude.{◌≡◌, Bool, cond, ◌||◌, List, [], ◌∷◌, ◌++◌, ℕ, suc, ◌≤◌, ◌<◌, length, nat_eq, Option, Result, OnErr}
use Rattle.answer.specs.Refusal.{result_of}
use Rattle.answer.specs.declared.Refusal.{Refusal}
use Rattle.queue.specs.Jobs.{PastTurn, QueueState, waiting_count, counts, is_empty, offer_answer, turn_of}
use Rattle.queue.specs.Calls.{Call, offer, turn, state_from_start}
use Rattle.queue.specs.declared.Job.{Job}
use Rattle.queue.specs.declared.Kind.{Kind}
use Rattle.queue.specs.declared.Taken.{Taken}

-- How many of the last turns in a row took an urgent job while an ordinary one waited.
unfoldable pub turns_in_row : List PastTurn → ℕ
turns_in_row [] = 0
turns_in_row (t ∷ earlier) = cond (counts t) (suc (turns_in_row earlier)) 0

-- What every state after a list of calls has: at most 16 jobs wait, at most three turns are in a row, and if one is, an ordinary job waits.
pub record Orderly (s : QueueState) : Type 0 where
  pub few : waiting_count s ≤ 16
  pub three : turns_in_row s.past ≤ 3
  pub waits : 0 < turns_in_row s.past → 0 < length s.ordinary

-- What a contract sees of a queue: the waiting jobs, the oldest first, and in the place of the past turns how many of the last are in a row.
pub record QueueView : Type 0 where
  pub urgent : List Job
  pub ordinary : List Job
  pub in_row : ℕ

abbrev pub view_of : List Job → List Job → ℕ → QueueView
view_of urgent ordinary in_row = record { urgent = urgent; ordinary = ordinary; in_row = in_row }

-- Whether a queue passes the urgent jobs over, by its count in the place of the past turns.
abbrev pub passes_by_count : QueueView → Bool
passes_by_count q = is_empty q.urgent || nat_eq q.in_row 3

-- A queue stands for a state: it has the waiting jobs, and its count tells the row of past turns.
abbrev pub Stands : QueueView → QueueState → Type 0
Stands q s = q ≡ view_of s.urgent s.ordinary (turns_in_row s.past)

-- The queue that the start and then these calls handed over.
abbrev pub HandedOver : QueueView → List Call → Type 0
HandedOver q calls = Stands q (state_from_start calls)

-- What every queue is: the start or a later call handed it over.
pub record FromStart (q : QueueView) : Type 0 where
  pub calls : List Call
  pub over : HandedOver q calls

-- What holds of every list of calls by which a queue may have been handed over.
abbrev pub ByHistory : QueueView → (List Call → Type 0) → Type 0
ByHistory q P = (calls : List Call) → HandedOver q calls → P calls

-- What an offer promises: its answer is that of its ground, the next queue is the one after this offer too, and a refusal hands back the very queue.
pub record Offers (q : QueueView) (kind : Kind) (job : Job) (answer : Result (Unit {0}) Refusal) (next : QueueView) : Type 0 where
  pub answers : ByHistory q (λ calls. answer ≡ result_of (offer_answer (state_from_start calls)) tt)
  pub leaves : ByHistory q (λ calls. HandedOver next (calls ++ offer kind job ∷ []))
  pub handed : FromStart next
  pub refused : OnErr answer (next ≡ q)

-- What a turn promises: it takes the job that is due, and the next queue is the one after this turn too.
pub record Turns (q : QueueView) (taken : Option Taken) (next : QueueView) : Type 0 where
  pub takes : ByHistory q (λ calls. taken ≡ turn_of (state_from_start calls))
  pub leaves : ByHistory q (λ calls. HandedOver next (calls ++ turn ∷ []))
  pub handed : FromStart next
