-- The kinds of a text's nodes, told byte by byte.
use Rattle.std.specs.Prelude.{ℕ, ◌-◌, ◌≤◌, List, [], ◌∷◌, ◌++◌, length, replicate}
use Rattle.character.specs.Character.{role_of}
use Rattle.character.specs.declared.Role.{Role}
use Rattle.character.specs.declared.Role.TheVariants.{Unpaired, Opening, Closing, Refused}
use Rattle.tree.specs.inner.DotBracket.{SameRoles}

-- The kind that a byte tells of the node that it ends, and 0 if it ends none.
abbrev pub told_by : Role → ℕ
told_by Unpaired = 0
told_by Opening = 0
told_by Closing = 1
told_by Refused = 0

-- How many nodes a byte ends. A refused one, which no text that is read has, goes as an unpaired one.
abbrev pub ended_by : Role → ℕ
ended_by Unpaired = 1
ended_by Opening = 0
ended_by Closing = 1
ended_by Refused = 1

-- The kinds with those that a byte tells in front.
abbrev pub onto_kinds : Role → List ℕ → List ℕ
onto_kinds Unpaired ks = 0 ∷ ks
onto_kinds Opening ks = ks
onto_kinds Closing ks = 1 ∷ ks
onto_kinds Refused ks = 0 ∷ ks

-- The kinds that the bytes of a text tell, in their order.
abbrev pub told_kinds : List ℕ → List ℕ
told_kinds [] = []
told_kinds (c ∷ s) = onto_kinds (role_of c) (told_kinds s)

-- A list of kinds with zeros behind it, up to 256.
abbrev pub with_zeros : List ℕ → List ℕ
with_zeros ks = ks ++ replicate (256 - length ks) 0

-- The kinds that a text tells, and zeros.
unfoldable pub kinds_read : List ℕ → List ℕ
kinds_read s = with_zeros (told_kinds s)

-- A text of at most 255 bytes in dot-bracket form.
pub record ShortForm (s : List ℕ) : Type 0 where
  pub form : SameRoles s
  pub short : length s ≤ 255
