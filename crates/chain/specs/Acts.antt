-- The calls on a session with their arguments: what each answers, by its grounds in order, and what it makes of the state.
use Rattle.std.specs.Prelude.{Bool, true, false, not, List, [], ◌∷◌, ◌++◌, ℕ, ◌+◌, ◌*◌, length, ℤ, ltb}
use Rattle.std.specs.Bool.{beq}
use Rattle.answer.specs.Answer.{given, unless, decide, Answer, Accepted}
use Rattle.answer.specs.declared.Ground.TheVariants.{NumberNotGiven, PresenceAsAsked, ScoreRange, ScratchShort, OutputShort}
use Rattle.answer.specs.declared.Place.TheVariants.{Seed, Nothing}
use Rattle.tree.specs.Reading.{leaves_of}
use Rattle.seed.specs.Area.{Box}
use Rattle.seed.specs.AreaList.{areas}
use Rattle.area.specs.PaperOrder.{areas_by}
use Rattle.area.specs.declared.Order.{Order}
use Rattle.seed.specs.declared.Pair.{Pair}
use Rattle.table.specs.Rows.{new_row, given_out, row_of, with_row, with_score, with_presence, present_rows, in_range}
use Rattle.adding.specs.Adding.{next_answer}
use Rattle.best.specs.Best.{scratch_needed}
use Rattle.plain.specs.Plain.{plain_of}
use Rattle.chain.specs.State.{State, changed, count_answer}

-- A room is how long the lent memory is; an order is that in which areas are listed.
pub data Act : Type 0 where
  add : List Pair → ℤ → Act
  withdraw : ℕ → Act
  bring_back : ℕ → Act
  rescore : ℕ → ℤ → Act
  best_chain : ℕ → Act
  list_areas : Order → ℕ → ℕ → Act
  write_deck : ℕ → Act
  show_row : ℕ → Act

-- The open areas of number k by rising a, and in an order; and the deck of the present seeds.
unfoldable pub areas_of : State → ℕ → List Box
areas_of s k = areas (leaves_of s.q) (leaves_of s.t) (row_of s.rows k).pairs

unfoldable pub areas_in : Order → State → ℕ → List Box
areas_in order s k = areas_by order (leaves_of s.q) (leaves_of s.t) (row_of s.rows k).pairs

unfoldable pub deck_of : State → List ℕ
deck_of s = plain_of (present_rows s.rows)

-- Ground 9, before what comes later.
abbrev pub of_number : State → ℕ → Answer → Answer
of_number s k later = given (not (given_out (length s.rows) k)) NumberNotGiven Nothing later

-- What an add answers: the grounds of the list as the next seed, then ground 20.
abbrev pub add_answer : State → List Pair → ℤ → Answer
add_answer s ps z = unless (next_answer s.q s.t s.rows ps z) (count_answer s.changes)

-- Withdrawing and bringing back differ in ground 10 alone.
abbrev pub move_answer : State → ℕ → Bool → Answer
move_answer s k to = of_number s k (given (beq (row_of s.rows k).present to) PresenceAsAsked Nothing (count_answer s.changes))

-- What a rescoring answers.
abbrev pub rescore_answer : State → ℕ → ℤ → Answer
rescore_answer s k z = of_number s k (given (not (in_range z)) ScoreRange (Seed k) (count_answer s.changes))

-- What each call answers. Listing areas answers the same in either order.
unfoldable pub grounds : State → Act → Answer
grounds s (add ps z) = add_answer s ps z
grounds s (withdraw k) = move_answer s k false
grounds s (bring_back k) = move_answer s k true
grounds s (rescore k z) = rescore_answer s k z
grounds s (best_chain room) = given (ltb room scratch_needed) ScratchShort Nothing Accepted
grounds s (list_areas order k room) = of_number s k (given (ltb room (length (areas_of s k) * 4)) OutputShort Nothing Accepted)
grounds s (write_deck room) = given (ltb room (length (deck_of s))) OutputShort Nothing Accepted
grounds s (show_row k) = of_number s k Accepted

-- What an accepted call makes of the state: every add, withdrawal, bringing back and rescoring is one change, and the others change nothing.
abbrev pub after : Act → State → State
after (add ps z) s = changed s (s.rows ++ new_row ps z ∷ [])
after (withdraw k) s = changed s (with_row s.rows k (with_presence (row_of s.rows k) false))
after (bring_back k) s = changed s (with_row s.rows k (with_presence (row_of s.rows k) true))
after (rescore k z) s = changed s (with_row s.rows k (with_score (row_of s.rows k) z))
after (best_chain room) s = s
after (list_areas order k room) s = s
after (write_deck room) s = s
after (show_row k) s = s

-- What a call that answers so leaves: a refused one the state as it was.
abbrev pub step : State → Act → Answer → State
step s act answer = decide answer (after act s) s

-- For inner functions: withdrawing and bringing back, by what the seed is to be.
abbrev pub moving : ℕ → Bool → Act
moving k true = bring_back k
moving k false = withdraw k
