-- How far a rescoring, a withdrawal or a bringing back can move the total, of sessions by the history.
use mathlib.Core.Path.{◌≡◌, refl, sym, ap, subst, subst₂, ◌∙◌}
use mathlib.Core.Bool.{Bool, true, false}
use mathlib.Core.List.{List, ◌∷◌}
use Prim.Native.Nat.{ℕ, ◌-◌}
use lib.IntN.{ℤ, pos, nat_abs, ◌+ℤ◌, ◌-ℤ◌}
use lib.ListN.{set}
use lib.Seq.{set-get_or}
use lib.Signed.{◌≤ℤ◌}
use Rattle.std.specs.Prelude.{Ok}
use Rattle.answer.specs.Answer.{Answer, Accepted, Refused}
use Rattle.tree.specs.Reading.{leaves_of}
use Rattle.table.specs.Rows.{Row, no_row, row_in, row_of, with_row, with_score}
use Rattle.optimum.specs.Chain.{Seeds, total, IsBest}
use Rattle.std.specs.Int.{int_max}
use Rattle.optimum.specs.OneSeed.{seeds_with_score, seeds_with_presence}
use Rattle.optimum.proofs.OneSeed.{raised, lowered, absent_scored, withdrawn, brought_back}
use Rattle.best.specs.Best.{seeds_of, named}
use Rattle.best.specs.declared.Best.{Best}
use Rattle.chain.specs.State.{State}
use Rattle.chain.specs.Acts.{Act, withdraw, bring_back, rescore, grounds, after, moving}
use Rattle.chain.specs.View.{view, Does}
use Rattle.chain.specs.Opening.{Outcome}
use Rattle.chain.specs.Looking.{seeds_in, Chains}
use Rattle.chain.specs.declared.Session.{Session}
use Rattle.chain.proofs.Judges.{by_moving, after_moving, rescore_passed, rescorable, Movable, movable}
use Rattle.demand.specs.History.{Event, event, state_of}
use Rattle.demand.specs.Reached.{Looked, Reached}
use Rattle.demand.specs.Reached.Reached.{called}
use Rattle.demand.specs.Totals.{TotalBy, UnmovedSince, AskedAround, row_by}
use Rattle.demand.specs.Totals.TotalBy.{asked}
use Rattle.demand.specs.Totals.UnmovedSince.{at_once, and_one}
use Rattle.demand.proofs.Histories.{looked_still, refused_still, trees_stay, session_before, accepted_by_lem}
use Rattle.demand.proofs.Demand.{demand_3}
use Rattle.demand.proofs.OneRow.{seeds_with_score_lem, seeds_with_presence_lem}

-- ---- calls that move no seed and no score

rows_scored_same : (rows : List Row) (k : ℕ) (z : ℤ) → (row_of rows k).score ≡ z → with_row rows k (with_score (row_of rows k) z) ≡ rows
unfolding row_of with_row
rows_scored_same rows k z e = ap (λ (w : ℤ). set rows (k - 1) (with_score (row_in rows (k - 1)) w)) (sym e) ∙ set-get_or rows (k - 1) no_row

-- Those that hand over no session, those that are refused, and a rescoring to the score that the seed has.
module _ {start : State} {h later : List Event} (q : UnmovedSince start h later) where
  pub unmoved_look : {s : Session} {act : Act} {a : Answer} → Looked s act a → UnmovedSince start h (event act a ∷ later)
  unmoved_look l = and_one q (ap (λ (x : State). x.rows) (looked_still l start later))

  pub unmoved_refusal : {act : Act} {a : Answer} → (a ≡ Accepted → ⊥) → UnmovedSince start h (event act a ∷ later)
  unmoved_refusal {act} {a} denied = and_one q (ap (λ (x : State). x.rows) (refused_still act a denied start later))

  pub unmoved_rescoring : (k : ℕ) (z : ℤ) (a : Answer) → (row_of (state_of start later).rows k).score ≡ z → UnmovedSince start h (event (rescore k z) a ∷ later)
  unfolding state_of
  unmoved_rescoring k z Accepted e = and_one q (rows_scored_same (state_of start later).rows k z e)
  unmoved_rescoring k z (Refused g p) e = and_one q refl

-- ---- the best total before and after a call

-- Best chain, one accepted call and best chain again, with the contracts that the three have.
pub asked_around : {o : Outcome} {s next : Session} {h : List Event} {act : Act} {before after before' after' : List ℕ} {best best' : Best} → Reached o s h
    → Chains (view s) before after (Ok best)
    → Does s act Accepted next
    → Chains (view next) before' after' (Ok best')
    → AskedAround o h act best.total best'.total
asked_around {h = h} {act = act} w c d c' =
    record {
      history_before = h;
      history_after = event act Accepted ∷ h;
      total_before = asked w c;
      unmoved_before = at_once;
      unmoved_after = at_once;
      total_after = asked (called w d) c';
    }

-- A best chain of these seeds has this total.
record BestTotal (S : Seeds) (n : ℕ) : Type 0 where
  set : ℕ → Bool
  best : IsBest S set
  total_is : pos n ≡ total S set

best_total : {o : Outcome} {h : List Event} {n : ℕ} → TotalBy o h n → BestTotal (seeds_in (state_of o.state h)) n
best_total (asked {s} {before} {after} {best} w c) = let b = demand_3 w before after best c in record { set = named best; best = b.chain_best; total_is = b.total_is }

session_asked : {o : Outcome} {h : List Event} {n : ℕ} → TotalBy o h n → (s : Session) × Reached o s h
session_asked (asked {s} w c) = (s, w)

unmoved_rows : {start : State} {h later : List Event} → UnmovedSince start h later → (state_of start later).rows ≡ (state_of start h).rows
unmoved_rows at_once = refl
unmoved_rows (and_one q e) = e ∙ unmoved_rows q

unmoved_seeds : (start : State) (h later : List Event) → UnmovedSince start h later → seeds_in (state_of start later) ≡ seeds_in (state_of start h)
unmoved_seeds start h later q =
    let same_q = (trees_stay start later).0 ∙ sym (trees_stay start h).0 in
    let same_t = (trees_stay start later).1 ∙ sym (trees_stay start h).1 in
    λ j. seeds_of (leaves_of (same_q j)) (leaves_of (same_t j)) (unmoved_rows q j)

reached_within : {o : Outcome} {h : List Event} {s : Session} {later : List Event} → UnmovedSince o.state h later → Reached o s later → (earlier : Session) × Reached o earlier h
reached_within {s = s} at_once w = (s, w)
reached_within {s = s} (and_one q e) w = reached_within {s = (session_before w).0} q (session_before w).1

-- The state that the call met.
abbrev here : Outcome → List Event → State
here o h = state_of o.state h

module _ {o : Outcome} {h : List Event} {act : Act} {n n' : ℕ} (a : AskedAround o h act n n') where
  best_before : BestTotal (seeds_in (here o h)) n
  best_before = subst (λ (S : Seeds). BestTotal S n) (sym (unmoved_seeds o.state a.history_before h a.unmoved_before)) (best_total a.total_before)

  best_after : BestTotal (seeds_in (after act (here o h))) n'
  unfolding state_of
  best_after = subst (λ (S : Seeds). BestTotal S n') (unmoved_seeds o.state (event act Accepted ∷ h) a.history_after a.unmoved_after) (best_total a.total_after)

  -- What holds of the totals of the two best chains holds of the totals answered.
  answered : (P : ℤ → ℤ → Type 0) → ((f f' : ℕ → Bool) → IsBest (seeds_in (here o h)) f → IsBest (seeds_in (after act (here o h))) f' → P (total (seeds_in (here o h)) f) (total (seeds_in (after act (here o h))) f')) → P (pos n) (pos n')
  answered P law = subst₂ P (sym best_before.total_is) (sym best_after.total_is) (law best_before.set best_after.set best_before.best best_after.best)

  passed : grounds (here o h) act ≡ Accepted
  passed = accepted_by_lem (reached_within a.unmoved_after (session_asked a.total_after).1).1

-- The call changed one score.
one_score : {o : Outcome} {h : List Event} {k n n' : ℕ} {z : ℤ} → AskedAround o h (rescore k z) n n' → seeds_in (after (rescore k z) (here o h)) ≡ seeds_with_score (seeds_in (here o h)) (k - 1) z
one_score {o} {h} {k} {n} {n'} {z} a =
    let s = here o h in
    seeds_with_score_lem (leaves_of s.q) (leaves_of s.t) s.rows k (rescorable s k z (rescore_passed s k z (passed a))).number z

-- It changed one presence.
module _ {o : Outcome} {h : List Event} (k : ℕ) (to : Bool) {n n' : ℕ} (a : AskedAround o h (moving k to) n n') where
  presence_known : Movable (here o h) k to
  presence_known = movable (here o h) k to (by_moving (here o h) k to ∙ passed a)

  one_presence : seeds_in (after (moving k to) (here o h)) ≡ seeds_with_presence (seeds_in (here o h)) (k - 1) to
  one_presence =
      let s = here o h in
      sym (ap seeds_in (after_moving s k to)) ∙ seeds_with_presence_lem (leaves_of s.q) (leaves_of s.t) s.rows k presence_known.number to

-- ---- how far a call moves the total

module _ {o : Outcome} {h : List Event} {k n n' : ℕ} where
  -- Raising a seed's score by d, present or not, raises the best total by no less than 0 and no more than d.
  pub raising : (d : ℕ) → AskedAround o h (rescore k ((row_by o h k).score +ℤ pos d)) n n' → (pos n ≤ℤ pos n') × (pos n' ≤ℤ (pos n +ℤ pos d))
  unfolding row_of
  raising d a = answered a (λ u v. (u ≤ℤ v) × (v ≤ℤ (u +ℤ pos d))) (λ f f' x y. raised x y (k - 1) d (one_score a))

  -- Lowering it by d lowers the total by no more than d and never raises it.
  pub lowering : (d : ℕ) → AskedAround o h (rescore k ((row_by o h k).score -ℤ pos d)) n n' → ((pos n -ℤ pos d) ≤ℤ pos n') × (pos n' ≤ℤ pos n)
  unfolding row_of
  lowering d a = answered a (λ u v. ((u -ℤ pos d) ≤ℤ v) × (v ≤ℤ u)) (λ f f' x y. lowered x y (k - 1) d (one_score a))

  -- Rescoring a withdrawn seed leaves the total as it was.
  pub rescoring_withdrawn : {z : ℤ} → AskedAround o h (rescore k z) n n' → (row_by o h k).present ≡ false → n' ≡ n
  unfolding row_of
  rescoring_withdrawn {z} a gone = ap nat_abs (answered a (λ u v. v ≡ u) (λ f f' x y. absent_scored x y (k - 1) z (one_score a) gone))

  -- Withdrawing a seed of score s lowers the total by no more than the greater of s and 0, and never raises it.
  pub withdrawing : AskedAround o h (withdraw k) n n' → ((pos n -ℤ int_max (row_by o h k).score (pos 0)) ≤ℤ pos n') × (pos n' ≤ℤ pos n)
  unfolding row_of
  withdrawing a = answered a (λ u v. ((u -ℤ int_max (row_by o h k).score (pos 0)) ≤ℤ v) × (v ≤ℤ u)) (λ f f' x y. withdrawn x y (k - 1) (one_presence k false a))

  -- Bringing it back raises the total by no less than 0 and no more than that.
  pub bringing_back : AskedAround o h (bring_back k) n n' → (pos n ≤ℤ pos n') × (pos n' ≤ℤ (pos n +ℤ int_max (row_by o h k).score (pos 0)))
  unfolding row_of
  bringing_back a = answered a (λ u v. (u ≤ℤ v) × (v ≤ℤ (u +ℤ int_max (row_by o h k).score (pos 0)))) (λ f f' x y. brought_back x y (k - 1) (one_presence k true a) (presence_known k true a).was)
