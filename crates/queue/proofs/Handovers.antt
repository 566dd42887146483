-- The queue after one call more, by what the call makes of the lanes and the count.
use mathlib.Core.Path.{◌≡◌, refl, sym, subst, subst⁻¹, ◌∙◌}
use mathlib.Core.Bool.{Bool, true, false, cond}
use mathlib.Core.List.{List, [], ◌∷◌, ◌++◌}
use Prim.Native.Nat.{ℕ, suc, ◌+◌, ◌≤◌, ◌<◌}
use native.Mathlib.Omega.{arith}
use lib.ListN.{length, drop}
use lib.Dec.{eqb}
use borrow.Author.Tests.{ne_eqb, eqb-true, eqb-false}
use Rattle.std.proofs.Common.{Fits, w64}
use Rattle.std.specs.Prelude.{Option, Ok, Err}
use Rattle.answer.specs.Refusal.{refusal_at}
use Rattle.answer.specs.declared.Ground.TheVariants.{QueueFull}
use Rattle.answer.specs.declared.Place.TheVariants.{Nothing}
use Rattle.queue.specs.Jobs.{QueueState, waiting_count, is_empty, passes_urgent, offer_answer, after_offer, oldest, turn_of, after_turn}
use Rattle.queue.specs.Calls.{Call, offer, turn, after_call, state_after, state_from_start}
use Rattle.queue.specs.Handing.{QueueView, view_of, turns_in_row, passes_by_count, Stands, HandedOver, FromStart, ByHistory, Offers, Turns}
use Rattle.queue.specs.declared.Job.{Job}
use Rattle.queue.specs.declared.Kind.{Kind}
use Rattle.queue.specs.declared.Kind.TheVariants.{Urgent, Ordinary}
use Rattle.queue.specs.declared.Taken.{Taken}
use Rattle.queue.proofs.PastTurns.{orderly, one_more, row_three, offer_free, offer_full, ordinary_turn, ordinary_urgent, ordinary_ordinary, ordinary_row, urgent_turn, urgent_urgent, urgent_ordinary, urgent_row}

-- A started queue is handed over by no calls.
pub at_start : HandedOver (view_of [] [] 0) []
unfolding state_from_start state_after turns_in_row
at_start = refl

pub start_handed : FromStart (view_of [] [] 0)
start_handed = record { calls = []; over = at_start }

-- A queue that stands for the state after the call was handed over by the calls and this one.
handed_on : {q : QueueView} (calls : List Call) (call : Call) → Stands q (after_call call (state_from_start calls)) → HandedOver q (calls ++ call ∷ [])
handed_on {q} calls call h = subst⁻¹ (Stands q) (one_more calls call) h

from_start : {q next : QueueView} (call : Call) → FromStart q → ByHistory q (λ calls. HandedOver next (calls ++ call ∷ [])) → FromStart next
from_start call h leaves = record { calls = h.calls ++ call ∷ []; over = leaves h.calls h.over }

-- The count of a queue tells the rule of the past turns, whatever calls handed it over.
pub rule_by_count : {q : QueueView} (calls : List Call) → HandedOver q calls → passes_by_count q ≡ passes_urgent (state_from_start calls)
unfolding passes_urgent
rule_by_count calls h = let s = state_from_start calls in rw (h, row_three s (orderly calls))

module _ {q : QueueView} (i : FromStart q) where
  few : length q.urgent + length q.ordinary ≤ 16
  few = subst⁻¹ (λ (v : QueueView). length v.urgent + length v.ordinary ≤ 16) i.over (orderly i.calls).few

  three : q.in_row ≤ 3
  three = subst⁻¹ (λ (v : QueueView). v.in_row ≤ 3) i.over (orderly i.calls).three

-- An offer to a queue that is full, and to one with room.
module _ {q : QueueView} (i : FromStart q) where
  full_offered : (kind : Kind) (job : Job) → length q.urgent + length q.ordinary ≡ 16 → Offers q kind job (Err (refusal_at QueueFull Nothing)) q
  unfolding offer_answer
  full_offered kind job full =
      record {
        answers = λ calls h. rw (sixteen calls h);
        leaves = leaves;
        handed = i;
        refused = refl;
      }
    where
      sixteen : ByHistory q (λ calls. length (state_from_start calls).urgent + length (state_from_start calls).ordinary ≡ 16)
      sixteen calls h = subst (λ (v : QueueView). length v.urgent + length v.ordinary ≡ 16) h full

      leaves : ByHistory q (λ calls. HandedOver q (calls ++ offer kind job ∷ []))
      leaves calls h = handed_on calls (offer kind job) (subst⁻¹ (Stands q) (offer_full kind job (state_from_start calls) (sixteen calls h)) h)

  few_by : (calls : List Call) → HandedOver q calls → (length q.urgent + length q.ordinary ≡ 16 → ⊥) → length (state_from_start calls).urgent + length (state_from_start calls).ordinary < 16
  few_by calls h room = subst (λ (v : QueueView). length v.urgent + length v.ordinary < 16) h (omega (arith, few i, room))

  module _ (job : Job) (room : length q.urgent + length q.ordinary ≡ 16 → ⊥) where
    more_offers : (kind : Kind) (next : QueueView) → ((calls : List Call) → HandedOver q calls → Stands next (after_offer kind job (state_from_start calls))) → Offers q kind job (Ok (tt {0})) next
    unfolding offer_answer
    more_offers kind next stands =
        record {
          answers = λ calls h. let s = state_from_start calls in let less = few_by calls h room in rw (ne_eqb (waiting_count s) 16 (λ e. omega arith));
          leaves = leaves;
          handed = from_start (offer kind job) i leaves;
          refused = tt;
        }
      where
        leaves : ByHistory q (λ calls. HandedOver next (calls ++ offer kind job ∷ []))
        leaves calls h = handed_on calls (offer kind job) (stands calls h)

    urgent_offers : Offers q Urgent job (Ok (tt {0})) (view_of (q.urgent ++ job ∷ []) q.ordinary q.in_row)
    urgent_offers = more_offers Urgent _ (λ calls h. subst⁻¹ (λ (s : QueueState). Stands (view_of (q.urgent ++ job ∷ []) q.ordinary q.in_row) s) (offer_free Urgent job (state_from_start calls) (few_by calls h room)) (rw h))

    ordinary_offers : Offers q Ordinary job (Ok (tt {0})) (view_of q.urgent (q.ordinary ++ job ∷ []) q.in_row)
    ordinary_offers = more_offers Ordinary _ (λ calls h. subst⁻¹ (λ (s : QueueState). Stands (view_of q.urgent (q.ordinary ++ job ∷ []) q.in_row) s) (offer_free Ordinary job (state_from_start calls) (few_by calls h room)) (rw h))

-- A turn of a queue, by whether it passes the urgent jobs over.
module _ {q : QueueView} (i : FromStart q) where
  turns : (taken : Option Taken) (next : QueueView) → ((calls : List Call) → HandedOver q calls → (taken ≡ turn_of (state_from_start calls)) × Stands next (after_turn (state_from_start calls))) → Turns q taken next
  turns taken next both = record { takes = λ calls h. (both calls h).0; leaves = leaves; handed = from_start turn i leaves }
    where
      leaves : ByHistory q (λ calls. HandedOver next (calls ++ turn ∷ []))
      leaves calls h = handed_on calls turn (both calls h).1

  ordinary_turns : passes_by_count q ≡ true → Turns q (oldest Ordinary q.ordinary) (view_of q.urgent (drop 1 q.ordinary) 0)
  ordinary_turns p = turns _ _ (λ calls h.
      let s = state_from_start calls in
      let passed = sym (rule_by_count calls h) ∙ p in
      (rw (ordinary_turn s passed, h), rw (h, ordinary_urgent s passed, ordinary_ordinary s passed, ordinary_row s passed)))

  urgent_turns : passes_by_count q ≡ false → Turns q (oldest Urgent q.urgent) (view_of (drop 1 q.urgent) q.ordinary (cond (is_empty q.ordinary) 0 (suc q.in_row)))
  urgent_turns p = turns _ _ (λ calls h.
      let s = state_from_start calls in
      let due = sym (rule_by_count calls h) ∙ p in
      (rw (urgent_turn s due, h), rw (h, urgent_urgent s due, urgent_ordinary s due, urgent_row s due)))

abbrev Full : Bool → QueueView → Type 0
Full b q = eqb (length q.urgent + length q.ordinary) 16 ≡ b

-- The same of a queue's fields, as the calls leave them.
module _ {q : QueueView} {u o : List Job} {r : ℕ} (shows : view_of u o r ≡ q) (i : FromStart (view_of u o r)) where
  pub refuses : {kind : Kind} {job : Job} → Full true q → Offers q kind job (Err (refusal_at QueueFull Nothing)) q
  refuses {kind} {job} full = full_offered (subst FromStart shows i) kind job (eqb-true _ 16 full)

  pub urgent_room : Full false q → length u < 16
  urgent_room room = subst⁻¹ (λ (v : QueueView). length v.urgent < 16) shows (let free = eqb-false (length q.urgent + length q.ordinary) 16 room in omega (arith, few (subst FromStart shows i)))

  pub ordinary_room : Full false q → length o < 16
  ordinary_room room = subst⁻¹ (λ (v : QueueView). length v.ordinary < 16) shows (let free = eqb-false (length q.urgent + length q.ordinary) 16 room in omega (arith, few (subst FromStart shows i)))

  pub urgent_offered : {kind : Kind} {job : Job} {more : List Job} {next : QueueView} → Full false q → kind ≡ Urgent → next ≡ view_of more o r → more ≡ u ++ job ∷ [] → Offers q kind job (Ok (tt {0})) next
  urgent_offered {job = job} {more = more} room k n e = rw (k, n, e) (subst (λ (v : QueueView). Offers v Urgent job (Ok (tt {0})) (view_of (u ++ job ∷ []) o r)) shows (urgent_offers i job (eqb-false _ 16 (subst⁻¹ (Full false) shows room))))

  pub ordinary_offered : {kind : Kind} {job : Job} {more : List Job} {next : QueueView} → Full false q → kind ≡ Ordinary → next ≡ view_of u more r → more ≡ o ++ job ∷ [] → Offers q kind job (Ok (tt {0})) next
  ordinary_offered {job = job} {more = more} room k n e = rw (k, n, e) (subst (λ (v : QueueView). Offers v Ordinary job (Ok (tt {0})) (view_of u (o ++ job ∷ []) r)) shows (ordinary_offers i job (eqb-false _ 16 (subst⁻¹ (Full false) shows room))))

  pub urgent_more : (job : Job) {more : List Job} → Full false q → more ≡ u ++ job ∷ [] → FromStart (view_of more o r)
  urgent_more job room e = (urgent_offered {job = job} room refl refl e).handed

  pub ordinary_more : (job : Job) {more : List Job} → Full false q → more ≡ o ++ job ∷ [] → FromStart (view_of u more r)
  ordinary_more job room e = (ordinary_offered {job = job} room refl refl e).handed

  pub row_fits : Fits w64 (r + 1)
  row_fits = let h = three i in omega arith

  pub ordinary_taken : {taken : Option Taken} {rest : List Job} {next : QueueView} → passes_by_count q ≡ true → next ≡ view_of u rest 0 → taken ≡ oldest Ordinary o → rest ≡ drop 1 o → Turns q taken next
  ordinary_taken {taken} {rest} {next} p n t e = subst (λ (v : QueueView). Turns v taken next) shows (rw (n, t, e) (ordinary_turns i (subst⁻¹ (λ (v : QueueView). passes_by_count v ≡ true) shows p)))

  pub urgent_taken : {taken : Option Taken} {rest : List Job} {row : ℕ} {next : QueueView} → passes_by_count q ≡ false → next ≡ view_of rest o row → taken ≡ oldest Urgent u → rest ≡ drop 1 u → row ≡ cond (is_empty q.ordinary) 0 (suc q.in_row) → Turns q taken next
  urgent_taken {taken} {rest} {row} {next} p n t e m = subst (λ (v : QueueView). Turns v taken next) shows (rw (n, t, e, subst⁻¹ (λ (v : QueueView). row ≡ cond (is_empty v.ordinary) 0 (suc v.in_row)) shows m) (urgent_turns i (subst⁻¹ (λ (v : QueueView). passes_by_count v ≡ false) shows p)))

  pub ordinary_less : {rest : List Job} → passes_by_count q ≡ true → rest ≡ drop 1 o → FromStart (view_of u rest 0)
  ordinary_less p e = (ordinary_taken p refl refl e).handed

  pub urgent_less : {rest : List Job} {row : ℕ} → passes_by_count q ≡ false → rest ≡ drop 1 u → row ≡ cond (is_empty q.ordinary) 0 (suc q.in_row) → FromStart (view_of rest o row)
  urgent_less p e n = (urgent_taken p refl refl e n).handed
