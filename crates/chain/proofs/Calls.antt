-- A session after an opening, and after a rescoring, a withdrawal, a bringing back or an add that was accepted or refused.
use mathlib.Core.Path.{◌≡◌, refl, sym, ap, ◌∙◌}
use mathlib.Core.Bool.{Bool}
use mathlib.Core.List.{List, [], ◌∷◌}
use Rattle.std.specs.Prelude.{Ok, Err}
use Prim.Native.Nat.{ℕ, ◌+◌, ◌-◌, ◌<◌}
use native.Mathlib.Omega.{arith}
use lib.ListN.{length, set, length-append}
use lib.IntN.{ℤ}
use Rattle.answer.specs.Answer.{unless, Answer, Accepted, Refused}
use Rattle.answer.specs.declared.Ground.{Ground}
use Rattle.answer.specs.declared.Place.{Place}
use Rattle.answer.specs.declared.Refusal.{Refusal}
use Rattle.tree.specs.declared.Tree.{Tree}
use Rattle.seed.specs.declared.Pair.{Pair}
use Rattle.table.specs.Rows.{Row, new_row, row_in, row_of, with_row, with_score, with_presence}
use Rattle.table.specs.Table.{rows_of, Kept, HasRows}
use Rattle.table.specs.declared.Table.{Table}
use Rattle.table.proofs.Tables.{rows_length}
use Rattle.table.proofs.Held.{kept_set}
use Rattle.adding.specs.Adding.{next_answer, Grows}
use Rattle.chain.specs.Opening.{start_with}
use Rattle.chain.specs.State.{changed, count_answer}
use Rattle.chain.specs.Acts.{Act, add, rescore, moving, move_answer, rescore_answer, grounds, after, step}
use Rattle.chain.specs.View.{view, Sound, Does}
use Rattle.chain.specs.declared.Session.{Session}
use Rattle.chain.proofs.Judges.{by_moving, after_moving, Rescorable, rescorable, Movable, movable, count_room}

-- The session of an opening, whose seeds count as adds.
abbrev pub session_of : Tree → Tree → Table → Session
session_of q t table = record { q = q; t = t; table = table; changes = table.seeds }

pub opened_state : (q t : Tree) (table : Table) → view (session_of q t table) ≡ start_with q t (rows_of table)
opened_state q t table = rw (rows_length table)

pub opened_sound : (q t : Tree) (table : Table) → Kept q t table → Sound (session_of q t table)
opened_sound q t table h = record { kept = h; few = omega (arith, h.laid.few) }

-- What a call does, by its answer.
does_refused : (s : Session) (act : Act) (a : Answer) (g : Ground) (p : Place) → Sound s → a ≡ grounds (view s) act → a ≡ Refused g p → Does s act a s
does_refused s act a g p h e f =
    record { answers = e; leaves = sym (ap (step (view s) act) f); sound = h; refused = λ n. refl }

does_accepted : (s r : Session) (act : Act) (a : Answer) → a ≡ grounds (view s) act → a ≡ Accepted → view r ≡ after act (view s) → Sound r → Does s act a r
does_accepted s r act a e f v h =
    record { answers = e; leaves = v ∙ sym (ap (step (view s) act) f); sound = h; refused = λ n. absurd (n f) }

-- Another score for number k.
module _ (s : Session) (k : ℕ) (z : ℤ) (h : Sound s) {a : Answer} (e : a ≡ rescore_answer (view s) k z) where
  is_rescore : a ≡ grounds (view s) (rescore k z)
  unfolding grounds
  is_rescore = e

  pub rescores_not : {g : Ground} {p : Place} → a ≡ Refused g p → Does s (rescore k z) a s
  rescores_not {g} {p} f = does_refused s (rescore k z) a g p h is_rescore f

  module _ (ok : a ≡ Accepted) where
    pub score_known : Rescorable (view s) k z
    score_known = rescorable (view s) k z (sym e ∙ ok)

    abbrev row_scored : Row
    row_scored = with_score (row_in (rows_of s.table) (k - 1)) z

    module _ {next : Table} (n : HasRows (set (rows_of s.table) (k - 1) (with_score (row_in (rows_of s.table) (k - 1)) z)) next) where
      pub score_kept : Kept s.q s.t next
      score_kept = kept_set s.q s.t s.table next (k - 1) row_scored h.kept n (λ l. record { seed = (h.kept.each (k - 1) l).seed; ranged = score_known.ranged })

      pub rescores : {r : Session} → view r ≡ changed (view s) (rows_of next) → Sound r → Does s (rescore k z) a r
      unfolding with_row row_of
      rescores {r} v w = does_accepted s r (rescore k z) a is_rescore ok (v ∙ ap (changed (view s)) n.is) w

-- Another presence for number k.
module _ (s : Session) (k : ℕ) (to : Bool) (h : Sound s) {a : Answer} (e : a ≡ move_answer (view s) k to) where
  pub moves_not : {g : Ground} {p : Place} → a ≡ Refused g p → Does s (moving k to) a s
  moves_not {g} {p} f = does_refused s (moving k to) a g p h (e ∙ by_moving (view s) k to) f

  module _ (ok : a ≡ Accepted) where
    pub move_known : Movable (view s) k to
    move_known = movable (view s) k to (sym e ∙ ok)

    abbrev row_moved : Row
    row_moved = with_presence (row_in (rows_of s.table) (k - 1)) to

    module _ {next : Table} (n : HasRows (set (rows_of s.table) (k - 1) (with_presence (row_in (rows_of s.table) (k - 1)) to)) next) where
      pub move_kept : Kept s.q s.t next
      move_kept = kept_set s.q s.t s.table next (k - 1) row_moved h.kept n (λ l. record { seed = (h.kept.each (k - 1) l).seed; ranged = (h.kept.each (k - 1) l).ranged })

      rows_moved : rows_of next ≡ with_row (rows_of s.table) k (with_presence (row_of (rows_of s.table) k) to)
      unfolding with_row row_of
      rows_moved = n.is

      pub moves : {r : Session} → view r ≡ changed (view s) (rows_of next) → Sound r → Does s (moving k to) a r
      moves {r} v w =
          does_accepted s r (moving k to) a (e ∙ by_moving (view s) k to) ok
          (v ∙ ap (changed (view s)) rows_moved ∙ after_moving (view s) k to) w

-- One seed more.
module _ (s : Session) (ps : List Pair) (z : ℤ) (h : Sound s) where
  -- What the grounds of the list and then ground 20 answer is what an add answers.
  is_add : {b : Answer} → b ≡ next_answer s.q s.t (rows_of s.table) ps z → unless b (count_answer s.changes) ≡ grounds (view s) (add ps z)
  unfolding grounds
  is_add e = ap (λ (x : Answer). unless x (count_answer s.changes)) e

  -- Refused by the list's grounds, and by ground 20.
  pub adds_not : {e : Refusal} → Grows s.q s.t s.table ps z (Err e) → Does s (add ps z) (Refused e.ground e.place) s
  adds_not {e} g = does_refused s (add ps z) (Refused e.ground e.place) e.ground e.place h (is_add g.answers) refl

  module _ {next : Table} (g : Grows s.q s.t s.table ps z (Ok next)) where
    pub adds_no_more : {e : Refusal} → Refused e.ground e.place ≡ count_answer s.changes → Does s (add ps z) (Refused e.ground e.place) s
    adds_no_more {e} f = does_refused s (add ps z) (Refused e.ground e.place) e.ground e.place h (f ∙ is_add g.answers) refl

    module _ (ok : Accepted ≡ count_answer s.changes) where
      pub add_room : s.changes < 1000000
      add_room = count_room s.changes (sym ok)

      pub adds : {r : Session} → view r ≡ changed (view s) (rows_of next) → Sound r → Does s (add ps z) Accepted r
      adds {r} v w = does_accepted s r (add ps z) Accepted (ok ∙ is_add g.answers) refl (v ∙ ap (changed (view s)) g.accepted) w

      pub added_number : next.seeds ≡ length (view s).rows + 1
      added_number = sym (rows_length next) ∙ ap length g.accepted ∙ length-append (rows_of s.table) (new_row ps z ∷ [])
