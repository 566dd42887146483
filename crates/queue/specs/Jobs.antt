-- A queue for the panel: what waits, the turns that were, and what an offer and a turn make of them.
use Rattle.std.specs.Prelude.{Bool, true, false, cond, not, ◌&&◌, ◌||◌, List, [], ◌∷◌, ◌++◌, ℕ, ◌+◌, length, drop, eqb, Option, Some, None}
use Rattle.answer.specs.Answer.{given, decide, Answer, Accepted}
use Rattle.answer.specs.declared.Ground.TheVariants.{QueueFull}
use Rattle.answer.specs.declared.Place.TheVariants.{Nothing}
use Rattle.queue.specs.declared.Job.{Job}
use Rattle.queue.specs.declared.Kind.{Kind}
use Rattle.queue.specs.declared.Kind.TheVariants.{Urgent, Ordinary}
use Rattle.queue.specs.declared.Taken.{Taken}

-- A turn that takes a job of a kind.
abbrev pub took : Kind → Job → Option Taken
took kind job = Some (record { kind = kind; job = job })

-- A past turn: what it took, and whether an ordinary job waited at that turn.
pub record PastTurn : Type 0 where
  pub taken : Option Taken
  pub ordinary_waited : Bool

-- Jobs "wait as urgent or ordinary", the oldest first; the past turns, the latest first.
pub record QueueState : Type 0 where
  pub urgent : List Job
  pub ordinary : List Job
  pub past : List PastTurn

-- "A queue starts empty".
abbrev pub started : QueueState
started = record { urgent = []; ordinary = []; past = [] }

-- The waiting jobs of one kind, the state with others in their stead, and how many wait together.
abbrev pub waiting : Kind → QueueState → List Job
waiting Urgent s = s.urgent
waiting Ordinary s = s.ordinary

abbrev pub with_waiting : Kind → List Job → QueueState → QueueState
with_waiting Urgent jobs s = record { urgent = jobs; ordinary = s.ordinary; past = s.past }
with_waiting Ordinary jobs s = record { urgent = s.urgent; ordinary = jobs; past = s.past }

abbrev pub waiting_count : QueueState → ℕ
waiting_count s = length s.urgent + length s.ordinary

-- "It refuses with 31, the queue unchanged, a job offered while exactly 16 wait"; any other job waits behind those of its kind.
unfoldable pub offer_answer : QueueState → Answer
offer_answer s = given (eqb (waiting_count s) 16) QueueFull Nothing Accepted

unfoldable pub after_offer : Kind → Job → QueueState → QueueState
after_offer kind job s = decide (offer_answer s) (with_waiting kind (waiting kind s ++ job ∷ []) s) s

-- A turn that "took" an urgent job, "while an ordinary job waited".
abbrev pub is_urgent : Kind → Bool
is_urgent Urgent = true
is_urgent Ordinary = false

abbrev pub took_urgent : Option Taken → Bool
took_urgent None = false
took_urgent (Some taken) = is_urgent taken.kind

abbrev pub counts : PastTurn → Bool
counts t = took_urgent t.taken && t.ordinary_waited

-- "The last three turns all took urgent ones, each while an ordinary job waited".
unfoldable pub last_three : List PastTurn → Bool
last_three [] = false
last_three (a ∷ []) = false
last_three (a ∷ b ∷ []) = false
last_three (a ∷ b ∷ c ∷ earlier) = counts a && counts b && counts c

abbrev pub is_empty : List Job → Bool
is_empty [] = true
is_empty (job ∷ jobs) = false

-- "Each turn takes the oldest urgent job, unless there is none or the last three turns all took urgent ones, each while an ordinary job waited;
-- then it takes the oldest ordinary job": whether urgent jobs are passed over, and of which kind the turn takes one.
unfoldable pub passes_urgent : QueueState → Bool
passes_urgent s = is_empty s.urgent || last_three s.past

abbrev pub turn_kind : QueueState → Kind
turn_kind s = cond (passes_urgent s) Ordinary Urgent

-- "With neither kind waiting the turn answers none".
abbrev pub oldest : Kind → List Job → Option Taken
oldest kind [] = None
oldest kind (job ∷ younger) = took kind job

unfoldable pub turn_of : QueueState → Option Taken
turn_of s = oldest (turn_kind s) (waiting (turn_kind s) s)

-- A turn as a past one.
abbrev pub past_turn : QueueState → PastTurn
past_turn s = record { taken = turn_of s; ordinary_waited = not (is_empty s.ordinary) }

abbrev pub with_past : PastTurn → QueueState → QueueState
with_past t s = record { urgent = s.urgent; ordinary = s.ordinary; past = t ∷ s.past }

-- "A served job frees its place".
unfoldable pub after_turn : QueueState → QueueState
after_turn s = with_past (past_turn s) (with_waiting (turn_kind s) (drop 1 (waiting (turn_kind s) s)) s)
