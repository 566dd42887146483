-- Texts in dot-bracket form (document 01), in which every text is read.
use Rattle.std.specs.Prelude.{◌≡◌, Bool, true, cond, ◌&&◌, ◌||◌, ℕ, List, [], ◌∷◌, get_or, eqb}
use Rattle.character.specs.Character.{role_of}
use Rattle.character.specs.declared.Role.{Role}
use Rattle.character.specs.declared.Role.TheVariants.{Unpaired, Opening, Closing, Refused}

-- The role of a byte where only the dot and the round brackets have one.
abbrev pub form_role : ℕ → Role
form_role b = cond (eqb b 46) Unpaired (cond (eqb b 40) Opening (cond (eqb b 41) Closing Refused))

-- A byte that may stand in dot-bracket form: a dot, a round bracket, or one that is refused in either.
abbrev pub SameRole : ℕ → Type 0
SameRole b = form_role b ≡ role_of b

abbrev pub SameRoles : List ℕ → Type 0
SameRoles s = (i : ℕ) → SameRole (get_or s i 0)

-- Whether a byte is a dot or a round bracket, and whether all bytes of a text are.
abbrev pub is_dot_bracket : ℕ → Bool
is_dot_bracket b = eqb b 46 || (eqb b 40 || eqb b 41)

abbrev pub in_dot_bracket : List ℕ → Bool
in_dot_bracket [] = true
in_dot_bracket (c ∷ s) = is_dot_bracket c && in_dot_bracket s

-- Whether a byte is one of four.
abbrev pub is_among : ℕ → ℕ → ℕ → ℕ → ℕ → Bool
is_among x a b c d = (eqb x a || eqb x b) || (eqb x c || eqb x d)
