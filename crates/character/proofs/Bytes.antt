-- Every byte is one of the fourteen that are not refused, or none of them.
use mathlib.Core.Path.{◌≡◌, refl, sym, subst}
use mathlib.Core.Bool.{Bool, true, false}
use Prim.Native.Nat.{ℕ}
use mathlib.Core.List.{List, [], ◌∷◌}
use lib.Dec.{eqb}
use borrow.Author.Tests.{eqb-true}

-- The openings and closings of the four pairs, and the unpaired characters, as document 02 lists them.
abbrev pub good : List ℕ
good = 60 ∷ 62 ∷ 40 ∷ 41 ∷ 91 ∷ 93 ∷ 123 ∷ 125 ∷ 46 ∷ 44 ∷ 58 ∷ 95 ∷ 45 ∷ 126 ∷ []

abbrev OfEach : (ℕ → Type 0) → List ℕ → Type 0
OfEach P [] = Unit {0}
OfEach P (x ∷ l) = P x × OfEach P l

-- The byte b is none of a list.
abbrev pub NoneOf : ℕ → List ℕ → Type 0
NoneOf b [] = Unit {0}
NoneOf b (x ∷ l) = (eqb b x ≡ false) × NoneOf b l

-- What holds of each byte of a list, and of b if it is none of them, holds of b; the same of the fourteen.
by_list : (P : ℕ → Type 0) (b : ℕ) (l : List ℕ) → OfEach P l → (NoneOf b l → P b) → P b
by_list P b [] each other = other tt
by_list P b (x ∷ l) each other = go (eqb b x) refl (λ e. by_list P b l each.1 (λ w. other (e, w)))
  where
    go : (t : Bool) → eqb b x ≡ t → (eqb b x ≡ false → P b) → P b
    go true e rest = subst P (sym (eqb-true b x e)) each.0
    go false e rest = rest e

pub by_byte : (P : ℕ → Type 0) (b : ℕ) → P 60 → P 62 → P 40 → P 41 → P 91 → P 93 → P 123 → P 125 → P 46 → P 44 → P 58 → P 95 → P 45 → P 126 → (NoneOf b good → P b) → P b
by_byte P b o₁ c₁ o₂ c₂ o₃ c₃ o₄ c₄ u₁ u₂ u₃ u₄ u₅ u₆ other = by_list P b good (o₁, (c₁, (o₂, (c₂, (o₃, (c₃, (o₄, (c₄, (u₁, (u₂, (u₃, (u₄, (u₅, (u₆, tt)))))))))))))) other
