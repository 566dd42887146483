-- The count of past turns in a row tells the rule, and what each call makes of it.
use mathlib.Core.Path.{◌≡◌, refl, sym, subst⁻¹, ◌∙◌}
use mathlib.Core.Bool.{Bool, true, false, cond, not, ◌&&◌, ◌||◌, true≢false}
use mathlib.Core.List.{List, [], ◌∷◌, ◌++◌}
use Prim.Native.Nat.{ℕ, suc, ◌≤◌, ◌<◌}
use native.Mathlib.Omega.{arith}
use lib.ListN.{length, drop, length-append, length-drop}
use lib.Dec.{leb, eqb}
use borrow.Author.Tests.{le-leb, leb-true, leb-false, eqb-true, eqb-false, eq-eqb, ne_eqb}
use Rattle.answer.specs.Answer.{decide, Answer, Accepted, Refused}
use Rattle.queue.specs.Jobs.{PastTurn, QueueState, started, waiting, with_waiting, waiting_count, offer_answer, after_offer, took_urgent, counts, last_three, is_empty, passes_urgent, oldest, turn_of, after_turn}
use Rattle.queue.specs.Calls.{Call, offer, turn, after_call, state_after, state_from_start}
use Rattle.queue.specs.Handing.{turns_in_row, Orderly}
use Rattle.queue.specs.declared.Job.{Job}
use Rattle.queue.specs.declared.Kind.{Kind}
use Rattle.queue.specs.declared.Kind.TheVariants.{Urgent, Ordinary}

neither : (a b : Bool) → a || b ≡ false → (a ≡ false) × (b ≡ false)
neither true b e = absurd (true≢false e)
neither false b e = (refl, e)

-- The rule looks at the last three turns: they all count exactly if three are in a row.
pub row_tells : (past : List PastTurn) → leb 3 (turns_in_row past) ≡ last_three past
unfolding turns_in_row last_three
row_tells [] = refl
row_tells (a ∷ []) = one (counts a)
  where
    one : (x : Bool) → leb 3 (cond x 1 0) ≡ false
    one true = refl
    one false = refl
row_tells (a ∷ b ∷ []) = two (counts a) (counts b)
  where
    two : (x y : Bool) → leb 3 (cond x (suc (cond y 1 0)) 0) ≡ false
    two true true = refl
    two true false = refl
    two false y = refl
row_tells (a ∷ b ∷ c ∷ earlier) = three (counts a) (counts b) (counts c) (turns_in_row earlier)
  where
    three : (x y z : Bool) (n : ℕ) → leb 3 (cond x (suc (cond y (suc (cond z (suc n) 0)) 0)) 0) ≡ x && y && z
    three true true true n = le-leb 3 (suc (suc (suc n))) (omega arith)
    three true true false n = refl
    three true false z n = refl
    three false y z n = refl

-- Where no more than three are in a row, they all count exactly if just three are.
pub row_three : (s : QueueState) → Orderly s → eqb (turns_in_row s.past) 3 ≡ last_three s.past
row_three s o = go (leb 3 (turns_in_row s.past)) refl ∙ row_tells s.past
  where
    go : (b : Bool) → leb 3 (turns_in_row s.past) ≡ b → eqb (turns_in_row s.past) 3 ≡ leb 3 (turns_in_row s.past)
    go true e = let h = leb-true 3 (turns_in_row s.past) e in eq-eqb (turns_in_row s.past) 3 (omega (arith, o.three)) ∙ sym e
    go false e = let h = leb-false 3 (turns_in_row s.past) e in ne_eqb (turns_in_row s.past) 3 (λ x. omega arith) ∙ sym e

-- A list without elements has length 0.
pub empty_length : (jobs : List Job) → is_empty jobs ≡ eqb (length jobs) 0
empty_length [] = refl
empty_length (job ∷ jobs) = sym (ne_eqb (suc (length jobs)) 0 (λ e. omega arith))

-- Urgent jobs that wait are passed over only after three turns in a row.
pub all_three : (s : QueueState) → is_empty s.urgent ≡ false → passes_urgent s ≡ true → 3 ≤ turns_in_row s.past
unfolding passes_urgent
all_three s u p = leb-true 3 (turns_in_row s.past) (row_tells s.past ∙ go (is_empty s.urgent) u p)
  where
    go : (b : Bool) → b ≡ false → b || last_three s.past ≡ true → last_three s.past ≡ true
    go true e h = absurd (true≢false e)
    go false e h = h

-- A turn that passes the urgent jobs over leaves them, and ends the row.
module _ (s : QueueState) (passed : passes_urgent s ≡ true) where
  pub ordinary_turn : turn_of s ≡ oldest Ordinary s.ordinary
  unfolding turn_of
  ordinary_turn = rw passed

  pub ordinary_urgent : (after_turn s).urgent ≡ s.urgent
  unfolding after_turn
  ordinary_urgent = rw passed

  pub ordinary_ordinary : (after_turn s).ordinary ≡ drop 1 s.ordinary
  unfolding after_turn
  ordinary_ordinary = rw passed

  pub ordinary_row : turns_in_row (after_turn s).past ≡ 0
  unfolding after_turn turn_of turns_in_row
  ordinary_row = rw passed (go s.ordinary)
    where
      go : (jobs : List Job) → cond (took_urgent (oldest Ordinary jobs) && not (is_empty s.ordinary)) (suc (turns_in_row s.past)) 0 ≡ 0
      go [] = refl
      go (job ∷ jobs) = refl

-- A turn that does not pass them over takes the oldest of them, and is one more in the row if an ordinary job waited.
module _ (s : QueueState) (due : passes_urgent s ≡ false) where
  pub some_urgent : is_empty s.urgent ≡ false
  unfolding passes_urgent
  some_urgent = (neither (is_empty s.urgent) (last_three s.past) due).0

  pub not_three : turns_in_row s.past < 3
  unfolding passes_urgent
  not_three = leb-false 3 (turns_in_row s.past) (row_tells s.past ∙ (neither (is_empty s.urgent) (last_three s.past) due).1)

  pub urgent_turn : turn_of s ≡ oldest Urgent s.urgent
  unfolding turn_of
  urgent_turn = rw due

  pub urgent_urgent : (after_turn s).urgent ≡ drop 1 s.urgent
  unfolding after_turn
  urgent_urgent = rw due

  pub urgent_ordinary : (after_turn s).ordinary ≡ s.ordinary
  unfolding after_turn
  urgent_ordinary = rw due

  pub urgent_row : turns_in_row (after_turn s).past ≡ cond (is_empty s.ordinary) 0 (suc (turns_in_row s.past))
  unfolding after_turn turn_of turns_in_row
  urgent_row = rw due (go s.urgent some_urgent (is_empty s.ordinary))
    where
      go : (jobs : List Job) → is_empty jobs ≡ false → (b : Bool) → cond (took_urgent (oldest Urgent jobs) && not b) (suc (turns_in_row s.past)) 0 ≡ cond b 0 (suc (turns_in_row s.past))
      go [] e b = absurd (true≢false e)
      go (job ∷ jobs) e true = refl
      go (job ∷ jobs) e false = refl

-- ---- every state after a list of calls

orderly_turn : (s : QueueState) → Orderly s → Orderly (after_turn s)
orderly_turn s o = go (passes_urgent s) refl
  where
    go : (b : Bool) → passes_urgent s ≡ b → Orderly (after_turn s)
    go true e =
        record {
          few = rw (ordinary_urgent s e, ordinary_ordinary s e) (omega (arith, o.few, length-drop 1 s.ordinary));
          three = omega (arith, ordinary_row s e);
          waits = λ h. absurd (omega (arith, ordinary_row s e));
        }
    go false e =
        record {
          few = rw (urgent_urgent s e, urgent_ordinary s e) (omega (arith, o.few, length-drop 1 s.urgent));
          three = rw (urgent_row s e) (most (is_empty s.ordinary));
          waits = rw (urgent_row s e, urgent_ordinary s e) (some s.ordinary);
        }
      where
        most : (b : Bool) → cond b 0 (suc (turns_in_row s.past)) ≤ 3
        most true = omega arith
        most false = not_three s e

        some : (jobs : List Job) → 0 < cond (is_empty jobs) 0 (suc (turns_in_row s.past)) → 0 < length jobs
        some [] h = h
        some (job ∷ jobs) h = omega arith

-- An accepted offer is one job more behind those of its kind, and a refused one changes nothing.
module _ (kind : Kind) (job : Job) (s : QueueState) where
  pub offer_free : waiting_count s < 16 → after_offer kind job s ≡ with_waiting kind (waiting kind s ++ job ∷ []) s
  unfolding after_offer offer_answer
  offer_free h = rw (ne_eqb (waiting_count s) 16 (λ e. omega arith))

  pub offer_past : (after_offer kind job s).past ≡ s.past
  unfolding after_offer
  offer_past = go kind (offer_answer s)
    where
      go : (k : Kind) (a : Answer) → (decide a (with_waiting k (waiting k s ++ job ∷ []) s) s).past ≡ s.past
      go Urgent Accepted = refl
      go Ordinary Accepted = refl
      go k (Refused g p) = refl

  pub offer_full : waiting_count s ≡ 16 → after_offer kind job s ≡ s
  unfolding after_offer offer_answer
  offer_full h = rw h

  orderly_more : waiting_count s < 16 → Orderly s → (k : Kind) → Orderly (with_waiting k (waiting k s ++ job ∷ []) s)
  orderly_more h o Urgent = record { few = omega (arith, length-append s.urgent (job ∷ [])); three = o.three; waits = o.waits }
  orderly_more h o Ordinary =
      let longer = length-append s.ordinary (job ∷ []) in
      record { few = omega (arith, longer); three = o.three; waits = λ r. omega (arith, longer) }

  orderly_offer : Orderly s → Orderly (after_offer kind job s)
  orderly_offer o = go (eqb (waiting_count s) 16) refl
    where
      go : (b : Bool) → eqb (waiting_count s) 16 ≡ b → Orderly (after_offer kind job s)
      go true e = subst⁻¹ Orderly (offer_full (eqb-true _ _ e)) o
      go false e =
          let other = eqb-false (waiting_count s) 16 e in
          let free : waiting_count s < 16 = omega (arith, o.few) in
          subst⁻¹ Orderly (offer_free free) (orderly_more free o kind)

orderly_after : (calls : List Call) (s : QueueState) → Orderly s → Orderly (state_after calls s)
unfolding state_after
orderly_after [] s o = o
orderly_after (offer kind job ∷ calls) s o = orderly_after calls (after_offer kind job s) (orderly_offer kind job s o)
orderly_after (turn ∷ calls) s o = orderly_after calls (after_turn s) (orderly_turn s o)

pub orderly : (calls : List Call) → Orderly (state_from_start calls)
unfolding state_from_start turns_in_row
orderly calls = orderly_after calls started (record { few = omega arith; three = omega arith; waits = λ h. h })

-- The state after one call more.
pub one_more : (calls : List Call) (call : Call) → state_from_start (calls ++ call ∷ []) ≡ after_call call (state_from_start calls)
unfolding state_from_start state_after
one_more calls call = go calls started
  where
    go : (cs : List Call) (s : QueueState) → state_after (cs ++ call ∷ []) s ≡ after_call call (state_after cs s)
    go [] s = refl
    go (c ∷ cs) s = go cs (after_call c s)
