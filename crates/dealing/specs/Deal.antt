-- Two texts and a deck to two trees and rows, by grounds 1 to 4 and 24, 5 to 8, and 11, 15, 25 and 16 to 19.
use Rattle.std.specs.Prelude.{◌≡◌, Result, IfOk, List, [], ℕ}
use Rattle.answer.specs.Answer.{unless, Answer, Accepted, Refused}
use Rattle.answer.specs.Refusal.{answer_in}
use Rattle.answer.specs.declared.Refusal.{Refusal}
use Rattle.tree.specs.Reading.{tree_of, single}
use Rattle.tree.specs.declared.Tree.{Tree}
use Rattle.table.specs.Rows.{Row}
use Rattle.table.specs.Table.{rows_of, Kept}
use Rattle.table.specs.declared.Table.{Table}
use Rattle.deck.specs.Deck as deck
use Rattle.deck.specs.Handed.{deck_read_answer, rows_in}
use Rattle.dealing.specs.Texts.{both_read}
use Rattle.dealing.specs.Seeds.{seeds_answer}
use Rattle.dealing.specs.declared.Dealt.{Dealt}

-- A deck on two trees: its layout and its walk, by 5 to 8, before its seeds.
unfoldable pub deck_answer : Tree → Tree → List ℕ → Answer
deck_answer q t d = unless (deck_read_answer (deck.deck_reading d)) (seeds_answer q t 1 (rows_in (deck.deck_reading d)))

-- What two texts and a deck give: an answer, two trees and rows.
pub record Deal : Type 0 where
  pub answer : Answer
  pub q : Tree
  pub t : Tree
  pub rows : List Row

-- A refusal gives the trees of the texts `.` and `.` without rows.
abbrev pub refused_with : Answer → Deal
refused_with a = record { answer = a; q = tree_of single; t = tree_of single; rows = [] }

abbrev pub deal_by : Answer → Deal → Deal
deal_by Accepted dealt = dealt
deal_by (Refused g p) dealt = refused_with (Refused g p)

-- The texts are judged before the deck.
unfoldable pub deal_answer : List ℕ → List ℕ → List ℕ → Answer
deal_answer q t d = unless (both_read q t).answer (deck_answer (both_read q t).q (both_read q t).t d)

unfoldable pub deal_of : List ℕ → List ℕ → List ℕ → Deal
deal_of q t d =
    deal_by (deal_answer q t d)
    (record { answer = Accepted; q = (both_read q t).q; t = (both_read q t).t; rows = rows_in (deck.deck_reading d) })

-- What dealing a deck on two trees promises: its answer, and if it is accepted the deck's rows in a table that is kept.
pub record DealsOn (q t : Tree) (d : List ℕ) (r : Result Table Refusal) : Type 0 where
  pub answers : answer_in r ≡ deck_answer q t d
  pub rows : IfOk r (λ table. rows_of table ≡ rows_in (deck.deck_reading d))
  pub kept : IfOk r (λ table. Kept q t table)

-- What is handed over is this, if it is accepted, in a table that is kept.
pub record AsDealt (o : Deal) (r : Result Dealt Refusal) : Type 0 where
  pub answers : answer_in r ≡ o.answer
  pub tree_q : IfOk r (λ dealt. dealt.q ≡ o.q)
  pub tree_t : IfOk r (λ dealt. dealt.t ≡ o.t)
  pub rows : IfOk r (λ dealt. rows_of dealt.table ≡ o.rows)
  pub kept : IfOk r (λ dealt. Kept dealt.q dealt.t dealt.table)

-- What dealing two texts and a deck promises.
abbrev pub Deals : List ℕ → List ℕ → List ℕ → Result Dealt Refusal → Type 0
Deals q t d r = AsDealt (deal_of q t d) r
