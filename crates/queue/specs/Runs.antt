-- Lists of calls that a program makes, each on the queue that the one before handed over.
use Rattle.std.specs.Prelude.{List, [], ◌∷◌, ◌++◌, Option, Result}
use Rattle.answer.specs.declared.Refusal.{Refusal}
use Rattle.queue.specs.Calls.{Call, offer, turn}
use Rattle.queue.specs.Handing.{QueueView, Offers, Turns}
use Rattle.queue.specs.declared.Job.{Job}
use Rattle.queue.specs.declared.Kind.{Kind}
use Rattle.queue.specs.declared.Taken.{Taken}

-- From one queue these calls led to another, each having kept its promise.
pub data LedTo (q : QueueView) : List Call → QueueView → Type 0 where
  nothing : LedTo q [] q
  offered : {now next : QueueView} {calls : List Call} {kind : Kind} {job : Job} {answer : Result (Unit {0}) Refusal} → LedTo q calls now → Offers now kind job answer next → LedTo q (calls ++ offer kind job ∷ []) next
  turned : {now next : QueueView} {calls : List Call} {taken : Option Taken} → LedTo q calls now → Turns now taken next → LedTo q (calls ++ turn ∷ []) next
