-- Document 01's two structures and texts at the grounds' edges, computed from the definitions.
use mathlib.Core.Path.{◌≡◌, refl}
use mathlib.Core.Bool.{cond}
use mathlib.Core.List.{List, [], ◌∷◌, ◌++◌, map}
use Prim.Native.Nat.{ℕ, zero, suc}
use lib.ListN.{replicate}
use lib.Dec.{eqb}
use Rattle.answer.specs.Answer.{Said, said}
use Rattle.answer.specs.Answer.Said.{accepted, refused}
use Rattle.answer.specs.declared.Place.TheVariants.{ByteInQ, ByteInT, Seed, Nothing}
use Rattle.character.specs.Character.{meaning_of}
use Rattle.tree.specs.Run.{lefts}
use Rattle.tree.specs.Reading.{Reading, bad_length, reading, text_answer}

-- `(.(.)).` and `(.)(.)`.
abbrev pub A : List ℕ
A = 40 ∷ 46 ∷ 40 ∷ 46 ∷ 41 ∷ 41 ∷ 46 ∷ []

abbrev pub B : List ℕ
B = 40 ∷ 46 ∷ 41 ∷ 40 ∷ 46 ∷ 41 ∷ []

abbrev lefts_of : Reading → List ℕ
lefts_of (Reading.text_accepted r) = lefts r
lefts_of (Reading.text_refused g k) = []

-- The leftmost leaves of A and of B.
left_A : lefts_of (reading A) ≡ 0 ∷ 1 ∷ 1 ∷ 0 ∷ 4 ∷ 0 ∷ []
unfolding reading bad_length meaning_of
left_A = refl

left_B : lefts_of (reading B) ≡ 0 ∷ 0 ∷ 2 ∷ 2 ∷ 0 ∷ []
unfolding reading bad_length meaning_of
left_B = refl

-- A text and what is said of it.
record Row : Type 0 where
  text : List ℕ
  says : Said

row : List ℕ → Said → Row
row s x = record { text = s; says = x }

abbrev copies : ℕ → ℕ → List ℕ
copies n x = replicate n x

rows : List Row
rows =
    row A accepted
    ∷ row B accepted
    ∷ row [] accepted
    ∷ row (copies 255 46) accepted
    ∷ row (copies 256 46) (refused 1 (ByteInQ 0))
    ∷ row (copies 127 40 ++ 46 ∷ copies 127 41) accepted
    ∷ row (41 ∷ 97 ∷ []) (refused 2 (ByteInQ 1))
    ∷ row (0 ∷ []) (refused 2 (ByteInQ 0))
    ∷ row (255 ∷ []) (refused 2 (ByteInQ 0))
    ∷ row (41 ∷ 40 ∷ []) (refused 3 (ByteInQ 0))
    ∷ row (40 ∷ []) (refused 4 (ByteInQ 0))
    ∷ row (40 ∷ 40 ∷ 41 ∷ []) (refused 4 (ByteInQ 0))
    ∷ row (40 ∷ 41 ∷ 40 ∷ []) (refused 4 (ByteInQ 2))
    -- `(<)`, `<)`, `(]`, `[(])`, `<(>)a` and `)<`; two closing brackets of another kind; 24 at the last byte of 254, and behind 3 and 4.
    ∷ row (40 ∷ 60 ∷ 41 ∷ []) (refused 4 (ByteInQ 0))
    ∷ row (60 ∷ 41 ∷ []) (refused 24 (ByteInQ 1))
    ∷ row (40 ∷ 93 ∷ []) (refused 24 (ByteInQ 1))
    ∷ row (91 ∷ 40 ∷ 93 ∷ 41 ∷ []) (refused 24 (ByteInQ 2))
    ∷ row (60 ∷ 40 ∷ 62 ∷ 41 ∷ 97 ∷ []) (refused 2 (ByteInQ 4))
    ∷ row (41 ∷ 60 ∷ []) (refused 3 (ByteInQ 0))
    ∷ row (123 ∷ 125 ∷ 60 ∷ 93 ∷ 91 ∷ 62 ∷ []) (refused 24 (ByteInQ 3))
    ∷ row (123 ∷ copies 126 91 ++ copies 126 93 ++ 62 ∷ []) (refused 24 (ByteInQ 253))
    ∷ row (60 ∷ 41 ∷ 41 ∷ []) (refused 3 (ByteInQ 2))
    ∷ row (60 ∷ 41 ∷ 40 ∷ []) (refused 4 (ByteInQ 2))
    ∷ []

-- The texts of one byte, by what is said of each: 6 are accepted, 242 are 2 at byte 0, 4 are 3 and 4 are 4.
abbrev numbers : ℕ → ℕ → List ℕ
numbers n zero = []
numbers n (suc more) = n ∷ numbers (suc n) more

-- A ground at byte 0 by its number, 0 if none is given, and 99 for any other.
abbrev ground_at_first : Said → ℕ
ground_at_first accepted = 0
ground_at_first (refused n (ByteInQ zero)) = n
ground_at_first (refused n (ByteInQ (suc k))) = 99
ground_at_first (refused n (ByteInT k)) = 99
ground_at_first (refused n (Seed k)) = 99
ground_at_first (refused n Nothing) = 99

abbrev how_many : ℕ → List ℕ → ℕ
how_many n [] = 0
how_many n (x ∷ l) = cond (eqb x n) (suc (how_many n l)) (how_many n l)

abbrev alone : List ℕ
alone = map (λ (b : ℕ). ground_at_first (said (text_answer (reading (b ∷ []))))) (numbers 0 256)

one_byte : map (λ (n : ℕ). how_many n alone) (0 ∷ 2 ∷ 3 ∷ 4 ∷ []) ≡ 6 ∷ 242 ∷ 4 ∷ 4 ∷ []
unfolding reading bad_length meaning_of
one_byte = refl

texts : map (λ (x : Row). said (text_answer (reading x.text))) rows ≡ map (λ (x : Row). x.says) rows
unfolding row rows reading bad_length meaning_of
texts = refl
