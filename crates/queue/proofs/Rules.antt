-- What the rule of turns comes to: when a turn answers none, and what ends a row.
use Rattle.std.specs.Prelude.{Option, None}
use mathlib.Core.Path.{◌≡◌, refl, sym, ap, ◌∙◌}
use mathlib.Core.Bool.{Bool, true, false, cond, true≢false}
use mathlib.Core.List.{List, [], ◌∷◌}
use mathlib.Core.Logic.{◌↔◌}
use Prim.Native.Nat.{suc, ◌<◌}
use native.Mathlib.Omega.{arith}
use lib.ListN.{length}
use borrow.Author.Tests.{eqb-true}
use Rattle.queue.specs.Jobs.{QueueState, waiting_count, is_empty, passes_urgent, oldest, took, turn_of, after_turn}
use Rattle.queue.specs.Calls.{Call, state_from_start, jobs_in}
use Rattle.queue.specs.Handing.{turns_in_row, Orderly}
use Rattle.queue.specs.declared.Job.{Job}
use Rattle.queue.specs.declared.Kind.{Kind}
use Rattle.queue.specs.declared.Kind.TheVariants.{Urgent, Ordinary}
use Rattle.queue.specs.declared.Taken.{Taken}
use Rattle.queue.proofs.PastTurns.{empty_length, orderly, all_three, some_urgent, ordinary_turn, urgent_turn, urgent_row}

-- A kind gives no job exactly if none of it waits.
none_oldest : (kind : Kind) (jobs : List Job) → oldest kind jobs ≡ None → length jobs ≡ 0
none_oldest kind [] e = refl
none_oldest Urgent (job ∷ jobs) e = absurd (let one = ap (λ (t : Option Taken). length (jobs_in Urgent t)) e in omega arith)
none_oldest Ordinary (job ∷ jobs) e = absurd (let one = ap (λ (t : Option Taken). length (jobs_in Ordinary t)) e in omega arith)

oldest_none : (kind : Kind) (jobs : List Job) → length jobs ≡ 0 → oldest kind jobs ≡ None
oldest_none kind [] e = refl
oldest_none kind (job ∷ jobs) e = absurd (omega arith)

some_length : (jobs : List Job) → is_empty jobs ≡ false → 0 < length jobs
some_length [] e = absurd (true≢false e)
some_length (job ∷ jobs) e = omega arith

module _ (s : QueueState) (o : Orderly s) where
  all_wait : (b : Bool) → passes_urgent s ≡ b → turn_of s ≡ None → waiting_count s ≡ 0
  all_wait true p e =
      let none = none_oldest Ordinary s.ordinary (sym (ordinary_turn s p) ∙ e) in
      urgent_too (is_empty s.urgent) refl none
    where
      urgent_too : (b : Bool) → is_empty s.urgent ≡ b → length s.ordinary ≡ 0 → waiting_count s ≡ 0
      urgent_too true u none = let no-urgent = eqb-true (length s.urgent) 0 (sym (empty_length s.urgent) ∙ u) in omega arith
      urgent_too false u none = absurd (let three = all_three s u p in let some = o.waits (omega arith) in omega arith)
  all_wait false p e = absurd (let some = some_length s.urgent (some_urgent s p) in let none = none_oldest Urgent s.urgent (sym (urgent_turn s p) ∙ e) in omega arith)

  none_wait : (b : Bool) → passes_urgent s ≡ b → waiting_count s ≡ 0 → turn_of s ≡ None
  none_wait true p e = ordinary_turn s p ∙ oldest_none Ordinary s.ordinary (omega arith)
  none_wait false p e = urgent_turn s p ∙ oldest_none Urgent s.urgent (omega arith)

  -- A row is ended only by an ordinary job that is taken.
  ends : (b : Bool) → passes_urgent s ≡ b → 0 < turns_in_row s.past → turns_in_row (after_turn s).past ≡ 0 → (job : Job) × (turn_of s ≡ took Ordinary job)
  ends true p some e = go s.ordinary (o.waits some) (ordinary_turn s p)
    where
      go : (jobs : List Job) → 0 < length jobs → turn_of s ≡ oldest Ordinary jobs → (job : Job) × (turn_of s ≡ took Ordinary job)
      go [] h t = absurd (omega arith)
      go (job ∷ jobs) h t = (job, t)
  ends false p some e = absurd (go s.ordinary (o.waits some) (sym (urgent_row s p) ∙ e))
    where
      go : (jobs : List Job) → 0 < length jobs → cond (is_empty jobs) 0 (suc (turns_in_row s.past)) ≡ 0 → ⊥
      go [] h x = omega arith
      go (job ∷ jobs) h x = omega arith

-- "With neither kind waiting the turn answers none", and only then.
pub none_exactly : (history : List Call) → (turn_of (state_from_start history) ≡ None) ↔ (waiting_count (state_from_start history) ≡ 0)
none_exactly history =
    let s = state_from_start history in
    (all_wait s (orderly history) (passes_urgent s) refl, none_wait s (orderly history) (passes_urgent s) refl)

pub row_ends : (history : List Call) → 0 < turns_in_row (state_from_start history).past → turns_in_row (after_turn (state_from_start history)).past ≡ 0 → (job : Job) × (turn_of (state_from_start history) ≡ took Ordinary job)
row_ends history = let s = state_from_start history in ends s (orderly history) (passes_urgent s) refl
