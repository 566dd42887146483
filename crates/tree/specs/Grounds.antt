-- Grounds 1 to 4 (document 01) and 24 (document 02, b), said of the bytes of a text, and what an answer must say by them.
use Rattle.std.specs.Prelude.{◌≡◌, ℕ, ◌<◌, List, ◌∷◌, ◌++◌, length}
use Rattle.answer.specs.Answer.{Said}
use Rattle.answer.specs.Grounds.{GivenIf, GivenFirst, ◌then◌}
use Rattle.answer.specs.declared.Place.TheVariants.{ByteInQ}
use Rattle.character.specs.Character.{role_of, kind_of}
use Rattle.character.specs.declared.Role.TheVariants.{Opening, Closing, Refused}
use Rattle.tree.specs.Run.{Run, spell}
use Rattle.tree.specs.Reading.{Meant}

-- The length is above 255 (document 02, f, where 01 had 0 too).
abbrev pub LengthRefused : List ℕ → Type 0
LengthRefused s = 255 < length s

-- The byte at k is neither unpaired nor a bracket.
pub record UnknownByteAt (s : List ℕ) (k : ℕ) : Type 0 where
  pub front : List ℕ
  pub byte : ℕ
  pub back : List ℕ
  pub split : s ≡ front ++ byte ∷ back
  pub place : length front ≡ k
  pub unknown : role_of byte ≡ Refused

-- A closing byte after p closes one of p, its partner: an opening byte with a run between the two.
pub record Closes (p : List ℕ) : Type 0 where
  pub ahead : List ℕ
  pub byte : ℕ
  pub run : Run
  pub split : p ≡ ahead ++ byte ∷ spell run
  pub opens : role_of byte ≡ Opening
  pub meant : Meant run

-- An opening byte before q is closed in q.
pub record Closed (q : List ℕ) : Type 0 where
  pub run : Run
  pub byte : ℕ
  pub rest : List ℕ
  pub split : q ≡ spell run ++ byte ∷ rest
  pub closes : role_of byte ≡ Closing
  pub meant : Meant run

-- The byte at k is a closing bracket that closes nothing.
pub record ClosesNothingAt (s : List ℕ) (k : ℕ) : Type 0 where
  pub front : List ℕ
  pub byte : ℕ
  pub back : List ℕ
  pub split : s ≡ front ++ byte ∷ back
  pub place : length front ≡ k
  pub closing : role_of byte ≡ Closing
  pub unopened : Closes front → ⊥

-- The byte at k is an opening bracket that is never closed.
pub record NeverClosedAt (s : List ℕ) (k : ℕ) : Type 0 where
  pub front : List ℕ
  pub byte : ℕ
  pub back : List ℕ
  pub split : s ≡ front ++ byte ∷ back
  pub place : length front ≡ k
  pub opening : role_of byte ≡ Opening
  pub unclosed : Closed back → ⊥

-- The byte at k is a closing bracket whose partner is of another kind.
pub record ClosesOtherKindAt (s : List ℕ) (k : ℕ) : Type 0 where
  pub front : List ℕ
  pub byte : ℕ
  pub back : List ℕ
  pub split : s ≡ front ++ byte ∷ back
  pub place : length front ≡ k
  pub closing : role_of byte ≡ Closing
  pub partner : Closes front
  pub other : kind_of partner.byte ≡ kind_of byte → ⊥

-- What is said of a text, which a call on it alone names Q: grounds 2, 3, 4 and 24 give the first such byte, and 24 comes after 4.
abbrev pub TextSays : List ℕ → Said → Type 0
TextSays s =
    GivenIf (LengthRefused s) 1 (ByteInQ 0)
    then GivenFirst (UnknownByteAt s) 2 ByteInQ
    then GivenFirst (ClosesNothingAt s) 3 ByteInQ
    then GivenFirst (NeverClosedAt s) 4 ByteInQ
    then GivenFirst (ClosesOtherKindAt s) 24 ByteInQ
