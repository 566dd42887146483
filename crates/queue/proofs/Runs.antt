-- What is said of lists of calls holds of the calls that a program makes, from any queue handed over.
use Rattle.std.specs.Prelude.{Option, None, Result}
use mathlib.Core.Path.{◌≡◌, refl, sym, ap, subst, subst⁻¹, ◌∙◌}
use mathlib.Core.List.{List, [], ◌∷◌, ◌++◌, append-nil, append_assoc}
use mathlib.Core.Logic.{◌↔◌}
use Prim.Native.Nat.{ℕ}
use Rattle.answer.specs.Grounds.{Decides}
use Rattle.answer.specs.Refusal.{result_of, answer_in}
use Rattle.answer.specs.Answer.{Answer, Accepted, Refused}
use Rattle.answer.specs.declared.Refusal.{Refusal}
use Rattle.queue.specs.Jobs.{took, waiting_count, offer_answer}
use Rattle.queue.specs.Calls.{Call, offer, turn, state_from_start}
use Rattle.queue.specs.Grounds.{OfferSays}
use Rattle.queue.specs.Waits.{TakenAt}
use Rattle.queue.specs.Handing.{QueueView, HandedOver, Offers, Turns}
use Rattle.queue.specs.Runs.{LedTo, nothing, offered, turned}
use Rattle.queue.specs.declared.Job.{Job}
use Rattle.queue.specs.declared.Kind.{Kind}
use Rattle.queue.specs.declared.Taken.{Taken}
use Rattle.queue.proofs.Grounds.{offer_decides}
use Rattle.queue.proofs.Rules.{none_exactly}

-- The result of an offer that answers so answers so.
same_answer : (a : Answer) → answer_in (result_of a (tt {0})) ≡ a
same_answer Accepted = refl
same_answer (Refused g p) = refl

-- The queue after more calls was handed over by all of them.
pub led_on : {q now : QueueView} (history : List Call) {calls : List Call} → HandedOver q history → LedTo q calls now → HandedOver now (history ++ calls)
led_on {q} history h nothing = subst (HandedOver q) (sym (append-nil history)) h
led_on history h (offered {next = next} {calls = calls} {kind = kind} {job = job} led o) = subst (HandedOver next) (append_assoc history calls (offer kind job ∷ [])) (o.leaves (history ++ calls) (led_on history h led))
led_on history h (turned {next = next} {calls = calls} led t) = subst (HandedOver next) (append_assoc history calls (turn ∷ [])) (t.leaves (history ++ calls) (led_on history h led))

module _ {q : QueueView} (history : List Call) (h : HandedOver q history) where
  -- An offer is refused with 31 exactly if 16 jobs wait by the history, and a turn answers none exactly if no job does.
  pub offer_grounds : {kind : Kind} {job : Job} {answer : Result (Unit {0}) Refusal} {next : QueueView} → Offers q kind job answer next → Decides (OfferSays (state_from_start history)) (answer_in answer)
  offer_grounds {answer = answer} o =
      let s = state_from_start history in
      subst⁻¹ (Decides (OfferSays s)) (ap answer_in (o.answers history h) ∙ same_answer (offer_answer s)) (offer_decides s)

  pub turn_none : {taken : Option Taken} {next : QueueView} → Turns q taken next → (taken ≡ None) ↔ (waiting_count (state_from_start history) ≡ 0)
  turn_none t =
      let e = t.takes history h in
      (λ n. (none_exactly history).0 (sym e ∙ n), λ n. e ∙ (none_exactly history).1 n)

  -- A turn behind more calls takes the job that is taken there.
  pub takes_there : {n : ℕ} {kind : Kind} {ahead : List Job} {job : Job} {before : List Call} {now next : QueueView} {taken : Option Taken} → TakenAt n kind ahead job history before → LedTo q before now → Turns now taken next → taken ≡ took kind job
  takes_there {before = before} there led t = t.takes (history ++ before) (led_on history h led) ∙ there.taken
