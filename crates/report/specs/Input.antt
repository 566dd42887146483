-- The parts of standard input (document 01, "Printed lines"): Q, line feed, T, line feed, the deck.
use Rattle.std.specs.Prelude.{cond, List, [], ◌∷◌, ℕ, take, eqb}

-- The bytes that are read: 8,192 at most, the rest ignored.
abbrev pub most_read : ℕ
most_read = 8192

unfoldable pub read_bytes : List ℕ → List ℕ
read_bytes input = take most_read input

-- What stands before the first line feed: all, if there is none.
unfoldable pub ahead : List ℕ → List ℕ
ahead [] = []
ahead (b ∷ s) = cond (eqb b 10) [] (b ∷ ahead s)

-- What stands behind the first line feed: nothing, if there is none.
unfoldable pub behind : List ℕ → List ℕ
behind [] = []
behind (b ∷ s) = cond (eqb b 10) s (behind s)

-- Q, T and the deck.
abbrev pub text_q : List ℕ → List ℕ
text_q input = ahead (read_bytes input)

abbrev pub text_t : List ℕ → List ℕ
text_t input = ahead (behind (read_bytes input))

abbrev pub deck_bytes : List ℕ → List ℕ
deck_bytes input = behind (behind (read_bytes input))
