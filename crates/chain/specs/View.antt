-- The state that a session stands for, what every session that is handed over has, and what a call promises of it.
use Rattle.std.specs.Prelude.{◌≡◌, ◌≤◌}
use Rattle.answer.specs.Answer.{Answer, Accepted}
use Rattle.table.specs.Table.{rows_of, Kept}
use Rattle.chain.specs.State.{State}
use Rattle.chain.specs.Acts.{Act, grounds, step}
use Rattle.chain.specs.declared.Session.{Session}

-- What its table's arrays hold beyond the rows is the free part of a session: no call shows it.
abbrev pub view : Session → State
view s = record { q = s.q; t = s.t; rows = rows_of s.table; changes = s.changes }

-- A session that an opening or a later call handed over.
pub record Sound (s : Session) : Type 0 where
  pub kept : Kept s.q s.t s.table
  pub few : s.changes ≤ 1000000

-- What a call on the session s promises that answers so and hands over the next session: the answer is that of its grounds, the state is the
-- step's, and a refusal hands back the very session.
pub record Does (s : Session) (act : Act) (answer : Answer) (next : Session) : Type 0 where
  pub answers : answer ≡ grounds (view s) act
  pub leaves : view next ≡ step (view s) act answer
  pub sound : Sound next
  pub refused : (answer ≡ Accepted → ⊥) → next ≡ s
