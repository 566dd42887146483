-- What one character means (document 02, b): pairs `<>`, `()`, `[]`, `{}`, unpaired `.` `,` `:` `_` `-` `~`, and everything else refused.
use Rattle.std.specs.Prelude.{cond, ℕ, eqb}
use Rattle.character.specs.declared.Meaning.{Meaning}
use Rattle.character.specs.declared.Meaning.TheVariants as meaning
use Rattle.character.specs.declared.Role.{Role}
use Rattle.character.specs.declared.Role.TheVariants.{Unpaired, Opening, Closing, Refused}

-- What one byte means.
unfoldable pub meaning_of : ℕ → Meaning
meaning_of b =
    cond (eqb b 60) meaning.OpeningAngle
    (cond (eqb b 62) meaning.ClosingAngle
    (cond (eqb b 40) meaning.OpeningRound
    (cond (eqb b 41) meaning.ClosingRound
    (cond (eqb b 91) meaning.OpeningSquare
    (cond (eqb b 93) meaning.ClosingSquare
    (cond (eqb b 123) meaning.OpeningCurly
    (cond (eqb b 125) meaning.ClosingCurly
    (cond (eqb b 46) meaning.Unpaired
    (cond (eqb b 44) meaning.Unpaired
    (cond (eqb b 58) meaning.Unpaired
    (cond (eqb b 95) meaning.Unpaired
    (cond (eqb b 45) meaning.Unpaired
    (cond (eqb b 126) meaning.Unpaired
    meaning.Refused)))))))))))))

-- "Opening" and "closing" for any bracket.
abbrev pub role_in : Meaning → Role
role_in meaning.OpeningAngle = Opening
role_in meaning.ClosingAngle = Closing
role_in meaning.OpeningRound = Opening
role_in meaning.ClosingRound = Closing
role_in meaning.OpeningSquare = Opening
role_in meaning.ClosingSquare = Closing
role_in meaning.OpeningCurly = Opening
role_in meaning.ClosingCurly = Closing
role_in meaning.Unpaired = Unpaired
role_in meaning.Refused = Refused

abbrev pub role_of : ℕ → Role
role_of b = role_in (meaning_of b)

-- The kind of a bracket: `<>` is 1, `()` 2, `[]` 3, `{}` 4, and what is no bracket 0.
abbrev pub kind_in : Meaning → ℕ
kind_in meaning.OpeningAngle = 1
kind_in meaning.ClosingAngle = 1
kind_in meaning.OpeningRound = 2
kind_in meaning.ClosingRound = 2
kind_in meaning.OpeningSquare = 3
kind_in meaning.ClosingSquare = 3
kind_in meaning.OpeningCurly = 4
kind_in meaning.ClosingCurly = 4
kind_in meaning.Unpaired = 0
kind_in meaning.Refused = 0

abbrev pub kind_of : ℕ → ℕ
kind_of b = kind_in (meaning_of b)
