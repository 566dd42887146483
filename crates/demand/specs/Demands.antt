-- What demands 2 and 3 say of the calls that a user makes, of the state by the history.
use Rattle.std.specs.Prelude.{◌≡◌, ◌↔◌, List, [], ℕ, ◌+◌, ◌<◌, length, ℤ, Result, IfOk}
use Rattle.answer.specs.Refusal.{answer_in}
use Rattle.answer.specs.Answer.{Accepted}
use Rattle.answer.specs.declared.Refusal.{Refusal}
use Rattle.tree.specs.Run.{Run, lefts}
use Rattle.tree.specs.Reading.{Spells, leaves_of, tree_of, single}
use Rattle.write.specs.Wrote.{with_bytes}
use Rattle.seed.specs.Area.{Box}
use Rattle.seed.specs.AreaList.{bytes_of}
use Rattle.seed.specs.declared.Pair.{Pair}
use Rattle.area.specs.PaperOrder.{AreasInOrder}
use Rattle.area.specs.declared.Order.{Order}
use Rattle.table.specs.Rows.{Row, row_of}
use Rattle.adding.specs.Adding.{Addable}
use Rattle.optimum.specs.Chain.{Seeds}
use Rattle.best.specs.Best.{seeds_of}
use Rattle.deck.specs.Deck.{deck_reading}
use Rattle.deck.specs.Handed.{rows_in}
use Rattle.chain.specs.State.{State}
use Rattle.chain.specs.Opening.{Outcome, start_with, opening, deck_opening}
use Rattle.demand.specs.History.{Event, state_of}

-- A list of pairs that a session in this state takes: a seed within the limits, and the count has room for a change.
pub record Takes (s : State) (ps : List Pair) (z : ℤ) : Type 0 where
  pub addable : Addable s.q s.t s.rows ps z
  pub room : s.changes < 1000000

-- An add in this state is accepted exactly if the state takes the list, and gives the number after the last; a refusal gives none.
pub record AddsRight (s : State) (ps : List Pair) (z : ℤ) (r : Result ℕ Refusal) : Type 0 where
  pub exactly : (answer_in r ≡ Accepted) ↔ Takes s ps z
  pub given : IfOk r (λ number. number ≡ length s.rows + 1)

-- What an accepted listing answers and leaves in the output: how many open areas the row of number k has, and their bytes, in the order asked for.
pub record ListsAreas (s : State) (order : Order) (k : ℕ) (before after : List ℕ) (listed : ℕ) : Type 0 where
  pub boxes : List Box
  pub are : AreasInOrder order (leaves_of s.q) (leaves_of s.t) (row_of s.rows k).pairs boxes
  pub count : listed ≡ length boxes
  pub output : after ≡ with_bytes (bytes_of boxes) before

-- An outcome is that of an opening on two texts that these runs spell: without a deck, or with an accepted one, whose rows these are. A refused
-- opening is as one on `.` and `.` without a deck.
pub data OpenedOn : Outcome → Run → Run → List Row → Type 0 where
  texts : (q t : List ℕ) {r p : Run} → Spells r q → Spells p t → OpenedOn (opening q t) r p []
  deck : (q t d : List ℕ) {r p : Run} → Spells r q → Spells p t → (deck_opening q t d).answer ≡ Accepted → OpenedOn (deck_opening q t d) r p (rows_in (deck_reading d))
  texts_refused : (q t : List ℕ) → ((opening q t).answer ≡ Accepted → ⊥) → OpenedOn (opening q t) single single []
  refused_deck : (q t d : List ℕ) → ((deck_opening q t d).answer ≡ Accepted → ⊥) → OpenedOn (deck_opening q t d) single single []

-- It is one of these, whatever its runs and rows.
abbrev pub OpenedOnSome : Outcome → Type 0
OpenedOnSome o = (r : Run) × (p : Run) × (rows : List Row) × OpenedOn o r p rows

-- The table by the history of a session on the trees of two runs that was opened with these rows.
abbrev pub table_by : Run → Run → List Row → List Event → List Row
table_by r p rows h = (state_of (start_with (tree_of r) (tree_of p) rows) h).rows

-- The seeds to choose from then.
abbrev pub seeds_by : Run → Run → List Row → List Event → Seeds
seeds_by r p rows h = seeds_of (lefts r) (lefts p) (table_by r p rows h)
