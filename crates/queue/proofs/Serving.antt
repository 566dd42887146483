-- How many turns a job waits at most: the turns in a row before a state count towards the next ordinary job's turn.
use mathlib.Core.Path.{◌≡◌, refl, sym, ap, ◌∙◌}
use mathlib.Core.Bool.{Bool, true, false, cond}
use mathlib.Core.List.{List, [], ◌∷◌, ◌++◌, append_assoc}
use Prim.Native.Nat.{ℕ, zero, suc, ◌+◌, ◌-◌, ◌*◌, ◌/◌, ◌≤◌, ◌<◌}
use native.Mathlib.Omega.{arith}
use lib.ListN.{length, drop}
use Rattle.queue.specs.Jobs.{QueueState, started, waiting, is_empty, passes_urgent, after_offer, oldest, took, turn_of, after_turn}
use Rattle.queue.specs.Calls.{Call, offer, turn, after_call, state_after, state_from_start, turns_in, jobs_in, accepted_by, taken_in}
use Rattle.queue.specs.Waits.{TakenWithin}
use Rattle.queue.specs.Handing.{turns_in_row}
use Rattle.queue.specs.declared.Job.{Job}
use Rattle.queue.specs.declared.Kind.{Kind}
use Rattle.queue.specs.declared.Kind.TheVariants.{Urgent, Ordinary}
use Rattle.queue.proofs.PastTurns.{all_three, offer_past, orderly, ordinary_turn, ordinary_urgent, ordinary_ordinary, ordinary_row, not_three, urgent_turn, urgent_urgent, urgent_ordinary, urgent_row}
use Rattle.queue.proofs.InOrder.{offer_waits, other_taken}

-- As `TakenWithin`, from any state.
record Served (n : ℕ) (kind : Kind) (ahead : List Job) (job : Job) (calls : List Call) (s : QueueState) : Type 0 where
  before : List Call
  behind : List Call
  apart : calls ≡ before ++ turn ∷ behind
  soon : turns_in before < n
  ahead_first : taken_in kind before s ≡ ahead
  taken : turn_of (state_after before s) ≡ took kind job

module _ {kind : Kind} {job : Job} {calls : List Call} {s : QueueState} where
  -- The turn that comes next takes it.
  served_now : {n : ℕ} → 0 < n → turn_of s ≡ took kind job → Served n kind [] job (turn ∷ calls) s
  unfolding turns_in taken_in state_after
  served_now h e = record { before = []; behind = calls; apart = refl; soon = h; ahead_first = refl; taken = e }

  -- It is served after an offer as it would be behind it, and after a turn one turn later.
  served_offer : {n : ℕ} {ahead : List Job} (other : Kind) (offered : Job) → Served n kind ahead job calls (after_offer other offered s) → Served n kind ahead job (offer other offered ∷ calls) s
  unfolding turns_in taken_in state_after
  served_offer other offered w =
      record {
        before = offer other offered ∷ w.before;
        behind = w.behind;
        apart = ap (λ (cs : List Call). offer other offered ∷ cs) w.apart;
        soon = w.soon;
        ahead_first = w.ahead_first;
        taken = w.taken;
      }

  served_turn : {n m : ℕ} {ahead rest : List Job} → m < n → jobs_in kind (turn_of s) ++ rest ≡ ahead → Served m kind rest job calls (after_turn s) → Served n kind ahead job (turn ∷ calls) s
  unfolding turns_in taken_in state_after
  served_turn l e w =
      record {
        before = turn ∷ w.before;
        behind = w.behind;
        apart = ap (λ (cs : List Call). turn ∷ cs) w.apart;
        soon = omega (arith, w.soon);
        ahead_first = ap (λ (jobs : List Job). jobs_in kind (turn_of s) ++ jobs) w.ahead_first ∙ e;
        taken = w.taken;
      }

-- A job that waits behind others still does after an offer.
behind_offer : (kind other : Kind) (offered : Job) (s : QueueState) (ahead rest : List Job) (job : Job) → waiting kind s ≡ ahead ++ job ∷ rest → waiting kind (after_offer other offered s) ≡ ahead ++ (job ∷ rest ++ accepted_by kind (offer other offered) s)
behind_offer kind other offered s ahead rest job e =
    offer_waits kind other offered s
    ∙ ap (λ (jobs : List Job). jobs ++ accepted_by kind (offer other offered) s) e
    ∙ append_assoc ahead (job ∷ rest) (accepted_by kind (offer other offered) s)

some_wait : (ahead rest : List Job) (job : Job) → is_empty (ahead ++ job ∷ rest) ≡ false
some_wait [] rest job = refl
some_wait (a ∷ ahead) rest job = refl

-- ---- an ordinary job

-- The job of this kind behind those ahead is served within n turns, if its bound is no more and so many turns are among the calls.
abbrev OrdinaryServed : List Call → QueueState → ℕ → Type 0
OrdinaryServed calls s n = (ahead rest : List Job) (job : Job) → s.ordinary ≡ ahead ++ job ∷ rest → 4 * length ahead + (3 - turns_in_row s.past) + 1 ≤ n → n ≤ turns_in calls → Served n Ordinary ahead job calls s

module _ (calls : List Call) (s : QueueState) (m : ℕ) (later : OrdinaryServed calls (after_turn s) m) where
  ordinary_next : (b : Bool) → passes_urgent s ≡ b → OrdinaryServed (turn ∷ calls) s (suc m)
  unfolding turns_in
  ordinary_next true p [] rest job e l t = served_now (omega arith) (ordinary_turn s p ∙ ap (oldest Ordinary) e)
  ordinary_next true p (a ∷ ahead) rest job e l t =
      let none = ordinary_row s p in
      served_turn (omega arith) (rw (ordinary_turn s p, e)) (later ahead rest job (ordinary_ordinary s p ∙ ap (drop 1) e) (omega arith) (omega arith))
  ordinary_next false p ahead rest job e l t =
      let one : turns_in_row (after_turn s).past ≡ suc (turns_in_row s.past) = urgent_row s p ∙ rw (e, some_wait ahead rest job) in
      let few = not_three s p in
      served_turn (omega arith) (rw (urgent_turn s p, other_taken Ordinary Urgent refl s.urgent)) (later ahead rest job (urgent_ordinary s p ∙ e) (omega arith) (omega arith))

ordinary_served : (calls : List Call) (s : QueueState) (n : ℕ) → OrdinaryServed calls s n
unfolding turns_in
ordinary_served [] s n ahead rest job e l t = absurd (omega arith)
ordinary_served (offer other offered ∷ calls) s n ahead rest job e l t =
    let same = ap turns_in_row (offer_past other offered s) in
    served_offer other offered (ordinary_served calls (after_offer other offered s) n ahead (rest ++ accepted_by Ordinary (offer other offered) s) job (behind_offer Ordinary other offered s ahead rest job e) (omega arith) t)
ordinary_served (turn ∷ calls) s zero ahead rest job e l t = absurd (omega arith)
ordinary_served (turn ∷ calls) s (suc m) ahead rest job e l t = ordinary_next calls s m (ordinary_served calls (after_turn s) m) (passes_urgent s) refl ahead rest job e l t

-- ---- an urgent job

abbrev UrgentServed : List Call → QueueState → ℕ → Type 0
UrgentServed calls s n = (ahead rest : List Job) (job : Job) → s.urgent ≡ ahead ++ job ∷ rest → turns_in_row s.past ≤ 3 → length ahead + 1 + (length ahead + turns_in_row s.past) / 3 ≤ n → n ≤ turns_in calls → Served n Urgent ahead job calls s

module _ (calls : List Call) (s : QueueState) (m : ℕ) (later : UrgentServed calls (after_turn s) m) where
  row_more : (b : Bool) → cond b 0 (suc (turns_in_row s.past)) ≤ suc (turns_in_row s.past)
  row_more true = omega arith
  row_more false = omega arith

  urgent_next : (b : Bool) → passes_urgent s ≡ b → UrgentServed (turn ∷ calls) s (suc m)
  unfolding turns_in
  urgent_next true p ahead rest job e r l t =
      let none = ordinary_row s p in
      let three = all_three s (ap is_empty e ∙ some_wait ahead rest job) p in
      served_turn (omega arith) (rw (ordinary_turn s p, other_taken Urgent Ordinary refl s.ordinary)) (later ahead rest job (ordinary_urgent s p ∙ e) (omega arith) (omega arith) (omega arith))
  urgent_next false p [] rest job e r l t = served_now (omega arith) (urgent_turn s p ∙ ap (oldest Urgent) e)
  urgent_next false p (a ∷ ahead) rest job e r l t =
      let few = not_three s p in
      let more : turns_in_row (after_turn s).past ≤ suc (turns_in_row s.past) = rw (urgent_row s p) (row_more (is_empty s.ordinary)) in
      served_turn (omega arith) (rw (urgent_turn s p, e)) (later ahead rest job (urgent_urgent s p ∙ ap (drop 1) e) (omega arith) (omega arith) (omega arith))

urgent_served : (calls : List Call) (s : QueueState) (n : ℕ) → UrgentServed calls s n
unfolding turns_in
urgent_served [] s n ahead rest job e r l t = absurd (omega arith)
urgent_served (offer other offered ∷ calls) s n ahead rest job e r l t =
    let same = ap turns_in_row (offer_past other offered s) in
    served_offer other offered (urgent_served calls (after_offer other offered s) n ahead (rest ++ accepted_by Urgent (offer other offered) s) job (behind_offer Urgent other offered s ahead rest job e) (omega arith) (omega arith) t)
urgent_served (turn ∷ calls) s zero ahead rest job e r l t = absurd (omega arith)
urgent_served (turn ∷ calls) s (suc m) ahead rest job e r l t = urgent_next calls s m (urgent_served calls (after_turn s) m) (passes_urgent s) refl ahead rest job e r l t

-- ---- by the history

-- The state after a list of calls and then another.
pub both_lists : (history before : List Call) → state_after before (state_from_start history) ≡ state_from_start (history ++ before)
unfolding state_from_start state_after
both_lists history before = go history started
  where
    go : (cs : List Call) (s : QueueState) → state_after before (state_after cs s) ≡ state_after (cs ++ before) s
    go [] s = refl
    go (c ∷ cs) s = go cs (after_call c s)

within : {n : ℕ} {kind : Kind} {ahead : List Job} {job : Job} (history calls : List Call) → Served n kind ahead job calls (state_from_start history) → TakenWithin n kind ahead job history calls
within history calls w =
    record {
      before = w.before;
      behind = w.behind;
      apart = w.apart;
      at = turns_in w.before + 1;
      soon = omega (arith, w.soon);
      there = record { turns = refl; ahead_first = w.ahead_first; taken = ap turn_of (sym (both_lists history w.before)) ∙ w.taken };
    }

-- "An ordinary job with k ordinary ones before it is taken within 4(k + 1) turns, however many urgent jobs arrive".
pub ordinary_within : (history calls : List Call) (ahead rest : List Job) (job : Job) → (state_from_start history).ordinary ≡ ahead ++ job ∷ rest → 4 * (length ahead + 1) ≤ turns_in calls → TakenWithin (4 * (length ahead + 1)) Ordinary ahead job history calls
ordinary_within history calls ahead rest job e t = within history calls (ordinary_served calls (state_from_start history) (4 * (length ahead + 1)) ahead rest job e (omega arith) t)

-- An urgent job with u urgent ones before it is taken within u + 2 + ⌊u / 3⌋ turns.
pub urgent_within : (history calls : List Call) (ahead rest : List Job) (job : Job) → (state_from_start history).urgent ≡ ahead ++ job ∷ rest → length ahead + 2 + length ahead / 3 ≤ turns_in calls → TakenWithin (length ahead + 2 + length ahead / 3) Urgent ahead job history calls
urgent_within history calls ahead rest job e t =
    let three = (orderly history).three in
    within history calls (urgent_served calls (state_from_start history) (length ahead + 2 + length ahead / 3) ahead rest job e three (omega arith) t)
