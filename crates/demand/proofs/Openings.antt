-- The state of each opening, and of the sessions that calls hand over from there, by the runs that its texts spell.
use mathlib.Core.Path.{◌≡◌, refl, ap, ap₂, ◌∙◌}
use mathlib.Core.List.{List, []}
use Prim.Native.Nat.{ℕ, ◌≤◌}
use native.Mathlib.Omega.{arith}
use Rattle.answer.specs.Answer.{unless, Answer, Accepted, Refused}
use Rattle.tree.specs.Run.{Run, size, lefts}
use Rattle.tree.specs.Reading.{Spells, Reading, reading, leaves_of, tree_of, single}
use Rattle.tree.specs.Reading.Reading.{text_accepted, text_refused}
use Rattle.tree.proofs.Grounds.{accepted_exactly}
use Rattle.tree.proofs.Trees.{accepted_nodes, tree_left}
use Rattle.table.specs.Rows.{Row}
use Rattle.deck.specs.Deck as deck
use Rattle.deck.specs.Handed.{rows_in}
use Rattle.dealing.specs.Texts.{both_of, both_read}
use Rattle.dealing.specs.Deal.{Deal, deal_by, deal_answer, deal_of}
use Rattle.chain.specs.State.{State}
use Rattle.chain.specs.View.{view}
use Rattle.chain.specs.Opening.{Outcome, start_with, opening, deck_opening}
use Rattle.chain.specs.declared.Session.{Session}
use Rattle.demand.specs.History.{Event, state_of}
use Rattle.demand.specs.Reached.{Reached}
use Rattle.demand.specs.Demands.{OpenedOn, OpenedOnSome}
use Rattle.demand.specs.Demands.OpenedOn.{texts, deck, texts_refused, refused_deck}
use Rattle.demand.proofs.Histories.{by_history, trees_stay}

-- A run that spells a text has at most 255 nodes, and its tree their leftmost leaves.
pub spelled_few : {s : List ℕ} {r : Run} → Spells r s → size r ≤ 255
spelled_few {s} {r} w = omega (arith, accepted_nodes s r ((accepted_exactly s r).1 w))

pub leaves_spelled : (r : Run) → size r ≤ 255 → leaves_of (tree_of r) ≡ lefts r
leaves_spelled r few = tree_left (tree_of r) (record { run = r; few = few; is = refl })

pub both_spelled : {q t : List ℕ} {r p : Run} → Spells r q → Spells p t → both_read q t ≡ record { answer = Accepted; q = tree_of r; t = tree_of p }
unfolding both_read
both_spelled {q} {t} {r} {p} w v = ap₂ both_of ((accepted_exactly q r).1 w) ((accepted_exactly t p).1 v)

-- A refused opening hands over the trees of `.` and `.`, without rows.
both_refused : (x y : Reading) → ((both_of x y).answer ≡ Accepted → ⊥) → start_with (both_of x y).q (both_of x y).t [] ≡ start_with (tree_of single) (tree_of single) []
both_refused (text_refused g k) y denied = refl
both_refused (text_accepted r) (text_refused g k) denied = refl
both_refused (text_accepted r) (text_accepted p) denied = absurd (denied refl)

abbrev state_from : Deal → State
state_from x = start_with x.q x.t x.rows

deal_accepted : (a : Answer) (whole : Deal) → (deal_by a whole).answer ≡ Accepted → deal_by a whole ≡ whole
deal_accepted Accepted whole e = refl
deal_accepted (Refused g p) whole e = absurd (cc)

deal_refused : (a : Answer) (whole : Deal) → whole.answer ≡ Accepted → ((deal_by a whole).answer ≡ Accepted → ⊥) → state_from (deal_by a whole) ≡ start_with (tree_of single) (tree_of single) []
deal_refused Accepted whole e denied = absurd (denied e)
deal_refused (Refused g p) whole e denied = refl

-- An accepted deck gives its rows, on the trees of the texts.
pub deck_state : (q t d : List ℕ) → (deck_opening q t d).answer ≡ Accepted → (deck_opening q t d).state ≡ start_with (both_read q t).q (both_read q t).t (rows_in (deck.deck_reading d))
unfolding deck_opening deal_of
deck_state q t d ok = ap state_from (deal_accepted (deal_answer q t d) _ ok)

pub opened_state : {o : Outcome} {r p : Run} {rows : List Row} → OpenedOn o r p rows → o.state ≡ start_with (tree_of r) (tree_of p) rows
unfolding opening deck_opening deal_of both_read
opened_state (texts q t w v) = rw (both_spelled w v)
opened_state (deck q t d w v ok) = deck_state q t d ok ∙ rw (both_spelled w v)
opened_state (texts_refused q t denied) = both_refused (reading q) (reading t) denied
opened_state (refused_deck q t d denied) = deal_refused (deal_answer q t d) _ refl denied

pub opened_few : {o : Outcome} {r p : Run} {rows : List Row} → OpenedOn o r p rows → (size r ≤ 255) × (size p ≤ 255)
opened_few (texts q t w v) = (spelled_few w, spelled_few v)
opened_few (deck q t d w v ok) = (spelled_few w, spelled_few v)
opened_few (texts_refused q t denied) = (omega arith, omega arith)
opened_few (refused_deck q t d denied) = (omega arith, omega arith)

-- A session that calls hand over from there has the state of the history on these runs, and their trees.
module _ {o : Outcome} {r p : Run} {rows : List Row} (on : OpenedOn o r p rows) {s : Session} {h : List Event} (w : Reached o s h) where
  pub reached_state : view s ≡ state_of (start_with (tree_of r) (tree_of p) rows) h
  reached_state = by_history w ∙ ap (λ (y : State). state_of y h) (opened_state on)

  pub reached_trees : (s.q ≡ tree_of r) × (s.t ≡ tree_of p)
  reached_trees =
      let stay = trees_stay (start_with (tree_of r) (tree_of p) rows) h in
      (ap (λ (y : State). y.q) reached_state ∙ stay.0, ap (λ (y : State). y.t) reached_state ∙ stay.1)

-- Every opening is one of these.
both_accepted : (q t : List ℕ) (x y : Reading) → reading q ≡ x → reading t ≡ y → (both_of x y).answer ≡ Accepted → (r : Run) × (p : Run) × (Spells r q × Spells p t)
both_accepted q t (text_accepted r) (text_accepted p) e f ok = (r, p, ((accepted_exactly q r).0 e, (accepted_exactly t p).0 f))
both_accepted q t (text_accepted r) (text_refused g k) e f ok = absurd (cc)
both_accepted q t (text_refused g k) y e f ok = absurd (cc)

pub every_opening : (q t : List ℕ) → OpenedOnSome (opening q t)
unfolding opening both_read
every_opening q t = go (both_read q t).answer refl
  where
    go : (a : Answer) → (both_read q t).answer ≡ a → OpenedOnSome (opening q t)
    go Accepted e = let w = both_accepted q t (reading q) (reading t) refl refl e in (w.0, w.1, [], texts q t w.2.0 w.2.1)
    go (Refused g p) e = (single, single, [], texts_refused q t (λ ok. cc))

texts_accepted : (a b : Answer) (whole : Deal) → (deal_by (unless a b) whole).answer ≡ Accepted → a ≡ Accepted
texts_accepted Accepted b whole e = refl
texts_accepted (Refused g p) b whole e = absurd (cc)

pub every_deck_opening : (q t d : List ℕ) → OpenedOnSome (deck_opening q t d)
unfolding deck_opening deal_of deal_answer both_read
every_deck_opening q t d = go (deck_opening q t d).answer refl
  where
    go : (a : Answer) → (deck_opening q t d).answer ≡ a → OpenedOnSome (deck_opening q t d)
    go Accepted e = let w = both_accepted q t (reading q) (reading t) refl refl (texts_accepted (both_read q t).answer _ _ e) in (w.0, w.1, rows_in (deck.deck_reading d), deck q t d w.2.0 w.2.1 e)
    go (Refused g p) e = (single, single, [], refused_deck q t d (λ ok. cc))
