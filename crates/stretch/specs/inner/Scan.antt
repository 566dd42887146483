-- The scan that finds a stretch in a text, byte by byte.
use Rattle.std.specs.Prelude.{◌≡◌, cond, ℕ, ◌+◌, List, [], ◌∷◌, length, leb, ltb, Option, Some, None}
use Rattle.tree.specs.Run.{Run, spell}
use Rattle.character.specs.Character.{role_of}
use Rattle.tree.specs.Reading.{reading}
use Rattle.tree.specs.Reading.Reading.{text_accepted}
use Rattle.stretch.specs.Stretch.{Found, stretch_in, Located}
use Rattle.stretch.specs.Stretch.Found.{at, nowhere}
use Rattle.character.specs.declared.Role.{Role}
use Rattle.character.specs.declared.Role.TheVariants.{Unpaired, Opening, Closing, Refused}
use Rattle.stretch.specs.declared.search.Scan.{Scan}
use Rattle.stretch.specs.declared.search.Ends.{Ends}

-- The nodes that a byte ends, and how many bytes such a node has of its own.
abbrev pub ends_of : Role → ℕ
ends_of Unpaired = 1
ends_of Opening = 0
ends_of Closing = 1
ends_of Refused = 0

abbrev pub own_bytes : Role → ℕ
own_bytes Unpaired = 1
own_bytes Opening = 0
own_bytes Closing = 2
own_bytes Refused = 0

-- One byte passed: a node that ends there counts, and so do its bytes if its number is a or more.
abbrev pub counted : ℕ → ℕ → Scan → Scan
counted a x c = record {
  at = c.at + 1;
  nodes = c.nodes + ends_of (role_of x);
  width = c.width + cond (leb a c.nodes) (own_bytes (role_of x)) 0;
}

abbrev pub unmoved : Scan
unmoved = record { at = 0; nodes = 0; width = 0 }

-- The bytes passed up to the one that ends node b.
abbrev pub scan_to : ℕ → ℕ → Scan → List ℕ → Scan
scan_to a b c [] = c
scan_to a b c (x ∷ s) = cond (ltb b c.nodes) c (scan_to a b (counted a x c) s)

-- The bytes that spell what is located.
abbrev pub ends_in : Located → Ends
ends_in l = record { from = l.from; to = l.to }

-- The bytes that spell what is found, if anything is.
abbrev pub found_ends : Found → Option Ends
found_ends (at k y) = Some (record { from = k; to = k + length (spell y) })
found_ends nowhere = None

-- What a search in an accepted text must answer.
abbrev pub LocatedRight : List ℕ → ℕ → ℕ → Option Ends → Type 0
LocatedRight s a b found = (r : Run) → reading s ≡ text_accepted r → found ≡ found_ends (stretch_in r a b)
