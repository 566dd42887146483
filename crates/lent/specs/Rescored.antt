-- A rescored seed, present or not, changes nowhere but in its score, in the session that the caller holds.
use Rattle.std.specs.Prelude.{◌≡◌, ◌≢◌, ℕ, ◌+◌, ◌≤◌, ℤ, length}
use Rattle.answer.specs.Answer.{Answer, Accepted}
use Rattle.table.specs.Rows.{row_of}
use Rattle.chain.specs.View.{view}
use Rattle.chain.specs.declared.Session.{Session}

-- The session with another score for one seed: both trees, how many seeds there are, every other seed, and of this one its pairs and its
-- presence are as they were; and there is one change more.
pub record OnlyScore (s : Session) (k : ℕ) (z : ℤ) (next : Session) : Type 0 where
  pub tree_q : (view next).q ≡ (view s).q
  pub tree_t : (view next).t ≡ (view s).t
  pub seeds : length (view next).rows ≡ length (view s).rows
  pub others : (j : ℕ) → 1 ≤ j → j ≢ k → row_of (view next).rows j ≡ row_of (view s).rows j
  pub pairs : (row_of (view next).rows k).pairs ≡ (row_of (view s).rows k).pairs
  pub present : (row_of (view next).rows k).present ≡ (row_of (view s).rows k).present
  pub score : (row_of (view next).rows k).score ≡ z
  pub changes : (view next).changes ≡ (view s).changes + 1

-- What stands in the caller's session after a rescoring: on acceptance another score and nothing else, on refusal the very session.
pub record Rescored (s : Session) (k : ℕ) (z : ℤ) (answer : Answer) (next : Session) : Type 0 where
  pub accepted : answer ≡ Accepted → OnlyScore s k z next
  pub refused : (answer ≡ Accepted → ⊥) → next ≡ s
