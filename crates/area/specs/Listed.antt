-- What listing the open areas of a seed answers and writes.
use Rattle.std.specs.Prelude.{◌≡◌, cond, List, ℕ, length, leb, Result, Ok, Err}
use Rattle.answer.specs.declared.Ground.TheVariants.{OutputShort}
use Rattle.answer.specs.declared.Place.TheVariants.{Nothing}
use Rattle.write.specs.Wrote.{output_of}
use Rattle.seed.specs.Area.{Box}
use Rattle.seed.specs.AreaList.{bytes_of}
use Rattle.answer.specs.Refusal.{refusal_at}
use Rattle.answer.specs.declared.Refusal.{Refusal}

-- How many areas there are; refused on ground 22 if the output has not room for their bytes, four for each.
unfoldable pub listed_of : List Box → List ℕ → Result ℕ Refusal
listed_of xs out = cond (leb (length (bytes_of xs)) (length out)) (Ok (length xs)) (Err (refusal_at OutputShort Nothing))

-- What listing answers and leaves in the output, of the areas and of the output as it was.
pub record ListedRight (xs : List Box) (before : List ℕ) (r : Result ℕ Refusal) (after : List ℕ) : Type 0 where
  pub answer : r ≡ listed_of xs before
  pub output : after ≡ output_of (bytes_of xs) before
