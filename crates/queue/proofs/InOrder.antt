-- What was offered and accepted is what was taken and then what waits, kind by kind and in order: none is lost, and none made up.
use mathlib.Core.Path.{◌≡◌, refl, sym, ap, ◌∙◌}
use mathlib.Core.Bool.{Bool, true, false, cond}
use mathlib.Core.List.{List, [], ◌∷◌, ◌++◌, append-nil, append_assoc}
use lib.ListN.{drop}
use Rattle.answer.specs.Answer.{decide, Answer, Accepted, Refused}
use Rattle.queue.specs.Jobs.{QueueState, started, waiting, with_waiting, offer_answer, after_offer, passes_urgent, oldest, turn_of, after_turn}
use Rattle.queue.specs.Calls.{Call, offer, turn, state_after, state_from_start, of_kind, jobs_in, accepted_by, accepted_in, taken_in}
use Rattle.queue.specs.declared.Job.{Job}
use Rattle.queue.specs.declared.Kind.{Kind}
use Rattle.queue.specs.declared.Kind.TheVariants.{Urgent, Ordinary}
use Rattle.queue.proofs.PastTurns.{ordinary_turn, ordinary_urgent, ordinary_ordinary, urgent_turn, urgent_urgent, urgent_ordinary}

-- An offer adds what it accepts, and nothing else.
pub offer_waits : (kind other : Kind) (job : Job) (s : QueueState) → waiting kind (after_offer other job s) ≡ waiting kind s ++ accepted_by kind (offer other job) s
unfolding after_offer
offer_waits kind other job s = go kind other (offer_answer s)
  where
    go : (k o : Kind) (a : Answer) → waiting k (decide a (with_waiting o (waiting o s ++ job ∷ []) s) s) ≡ waiting k s ++ decide a (cond (of_kind k o) (job ∷ []) []) []
    go Urgent Urgent Accepted = refl
    go Urgent Ordinary Accepted = sym (append-nil s.urgent)
    go Ordinary Urgent Accepted = sym (append-nil s.ordinary)
    go Ordinary Ordinary Accepted = refl
    go k o (Refused g p) = sym (append-nil (waiting k s))

-- The oldest of a list is taken from its front, as a job of its own kind alone.
pub oldest_taken : (kind : Kind) (jobs : List Job) → jobs ≡ jobs_in kind (oldest kind jobs) ++ drop 1 jobs
oldest_taken kind [] = refl
oldest_taken Urgent (job ∷ jobs) = refl
oldest_taken Ordinary (job ∷ jobs) = refl

pub other_taken : (kind other : Kind) → of_kind kind other ≡ false → (jobs : List Job) → jobs_in kind (oldest other jobs) ≡ []
other_taken kind other e [] = refl
other_taken kind other e (job ∷ jobs) = rw e

-- A turn takes away what it takes, and nothing else.
pub turn_waits : (kind : Kind) (s : QueueState) → waiting kind s ≡ jobs_in kind (turn_of s) ++ waiting kind (after_turn s)
turn_waits kind s = go kind (passes_urgent s) refl
  where
    go : (k : Kind) (b : Bool) → passes_urgent s ≡ b → waiting k s ≡ jobs_in k (turn_of s) ++ waiting k (after_turn s)
    go Urgent true e = rw (ordinary_turn s e, ordinary_urgent s e, other_taken Urgent Ordinary refl s.ordinary)
    go Urgent false e = rw (urgent_turn s e, urgent_urgent s e) (oldest_taken Urgent s.urgent)
    go Ordinary true e = rw (ordinary_turn s e, ordinary_ordinary s e) (oldest_taken Ordinary s.ordinary)
    go Ordinary false e = rw (urgent_turn s e, urgent_ordinary s e, other_taken Ordinary Urgent refl s.urgent)

-- From any state: what waited and what was accepted since.
pub in_order_from : (kind : Kind) (calls : List Call) (s : QueueState) → waiting kind s ++ accepted_in kind calls s ≡ taken_in kind calls s ++ waiting kind (state_after calls s)
unfolding accepted_in taken_in state_after
in_order_from kind [] s = append-nil (waiting kind s)
in_order_from kind (offer other job ∷ calls) s =
    let s' = after_offer other job s in
    sym (append_assoc (waiting kind s) (accepted_by kind (offer other job) s) (accepted_in kind calls s'))
    ∙ ap (λ (jobs : List Job). jobs ++ accepted_in kind calls s') (sym (offer_waits kind other job s))
    ∙ in_order_from kind calls s'
in_order_from kind (turn ∷ calls) s =
    let s' = after_turn s in
    ap (λ (jobs : List Job). jobs ++ accepted_in kind calls s') (turn_waits kind s)
    ∙ append_assoc (jobs_in kind (turn_of s)) (waiting kind s') (accepted_in kind calls s')
    ∙ ap (λ (jobs : List Job). jobs_in kind (turn_of s) ++ jobs) (in_order_from kind calls s')
    ∙ sym (append_assoc (jobs_in kind (turn_of s)) (taken_in kind calls s') (waiting kind (state_after calls s')))

-- From the start.
pub in_order : (kind : Kind) (calls : List Call) → accepted_in kind calls started ≡ taken_in kind calls started ++ waiting kind (state_from_start calls)
unfolding state_from_start
in_order Urgent calls = in_order_from Urgent calls started
in_order Ordinary calls = in_order_from Ordinary calls started
