-- A text as it is made: by the sign and the size of its number, in an array.
use Rattle.std.specs.Prelude.{Bool, true, false, List, ◌++◌, ℕ, ◌-◌, length, replicate}
use Rattle.write.specs.Decimal.{bytes}
use Rattle.decimal.specs.Score.{unsigned_text}
use Rattle.decimal.specs.declared.text.NumberText.{NumberText}

-- With a minus or without one.
unfoldable pub signed_text : Bool → ℕ → List ℕ
signed_text true n = bytes "-" ++ unsigned_text n
signed_text false n = unsigned_text n

-- How many bytes hold every text.
abbrev pub text_room : ℕ
text_room = 24

-- A text in an array of so many bytes, with zeros behind it.
unfoldable pub text_laid : List ℕ → NumberText
text_laid text = record { bytes = text ++ replicate (text_room - length text) 0; length = length text }
