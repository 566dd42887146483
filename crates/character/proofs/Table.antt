-- Which meaning each of the 256 bytes has, in one table (document 02, b). A byte has one place in it, and so one meaning.
use mathlib.Core.Path.{◌≡◌, refl, sym, ap, ◌∙◌}
use Prim.Native.Nat.{ℕ, zero, suc, ◌+◌, ◌<◌}
use native.Mathlib.Omega.{arith}
use mathlib.Core.List.{List, [], ◌∷◌, ◌++◌, map}
use lib.ListN.{get_or, replicate}
use Rattle.character.specs.Character.{meaning_of}
use Rattle.character.specs.declared.Meaning.{Meaning}
use Rattle.character.specs.declared.Meaning.TheVariants.{OpeningAngle, ClosingAngle, OpeningRound, ClosingRound, OpeningSquare, ClosingSquare, OpeningCurly, ClosingCurly, Unpaired, Refused}

abbrev others : ℕ → List Meaning
others n = replicate n Refused

abbrev pub table : List Meaning
table =
    -- 0 to 39; ( ) * + , - . at 40 to 46
    (others 40 ++ OpeningRound ∷ ClosingRound ∷ Refused ∷ Refused ∷ Unpaired ∷ Unpaired ∷ Unpaired ∷ [])
    -- 47 to 57, the digits among them; : ; < = > at 58 to 62
    ++ (others 11 ++ Unpaired ∷ Refused ∷ OpeningAngle ∷ Refused ∷ ClosingAngle ∷ [])
    -- 63 to 90, the capital letters among them; [ \ ] ^ _ at 91 to 95
    ++ (others 28 ++ OpeningSquare ∷ Refused ∷ ClosingSquare ∷ Refused ∷ Unpaired ∷ [])
    -- 96 to 122, the small letters among them; { | } ~ at 123 to 126; 127 to 255
    ++ (others 27 ++ OpeningCurly ∷ Refused ∷ ClosingCurly ∷ Unpaired ∷ others 129)

abbrev from : ℕ → ℕ → List ℕ
from n zero = []
from n (suc more) = n ∷ from (suc n) more

all : map meaning_of (from 0 256) ≡ table
unfolding meaning_of
all = refl

at_place : (more n b : ℕ) → b < more → get_or (map meaning_of (from n more)) b Refused ≡ meaning_of (n + b)
at_place zero n b h = absurd (omega arith)
at_place (suc more) n zero h = let e : n ≡ n + 0 = omega arith in ap meaning_of e
at_place (suc more) n (suc b) h = let e : suc n + b ≡ n + suc b = omega arith in at_place more (suc n) b (omega arith) ∙ ap meaning_of e

-- The entry of each byte is what it means.
pub every_byte : (b : ℕ) → b < 256 → get_or table b Refused ≡ meaning_of b
every_byte b h = let e : 0 + b ≡ b = omega arith in ap (λ (l : List Meaning). get_or l b Refused) (sym all) ∙ at_place 256 0 b h ∙ ap meaning_of e
