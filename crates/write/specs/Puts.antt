-- What putting bytes from a place of an output on promises: whole, or not at all where the output ends before them.
use Rattle.std.specs.Prelude.{◌≡◌, cond, List, ◌++◌, ℕ, ◌+◌, ◌≤◌, length, take, drop, leb}

-- The output then: the bytes stand from the place on, and every other byte is as it was.
unfoldable pub put_of : List ℕ → ℕ → List ℕ → List ℕ
put_of bytes at out = cond (leb (at + length bytes) (length out)) (take at out ++ bytes ++ drop (at + length bytes) out) out

-- The place behind what was put.
unfoldable pub behind_of : List ℕ → ℕ → ℕ → ℕ
behind_of bytes at room = cond (leb (at + length bytes) room) (at + length bytes) at

-- What putting these bytes promises, of the output before and after and of the place that it answers.
pub record Puts (bytes : List ℕ) (at : ℕ) (before after : List ℕ) (next : ℕ) : Type 0 where
  pub leaves : after ≡ put_of bytes at before
  pub behind : next ≡ behind_of bytes at (length before)

-- There is room for these bytes from the place on: what functions that put one thing after another ask for.
pub record Room (bytes : List ℕ) (at : ℕ) (out : List ℕ) : Type 0 where
  pub fits : at + length bytes ≤ length out
