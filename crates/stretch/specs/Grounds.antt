-- What the check of a run of nodes must say (document 01, grounds 1 to 4 and 15; document 02, b, ground 24).
use Rattle.std.specs.Prelude.{ℕ, List}
use Rattle.answer.specs.Answer.{Said}
use Rattle.answer.specs.Grounds.{GivenIf, ◌then◌}
use Rattle.answer.specs.declared.Place.TheVariants.{Nothing}
use Rattle.tree.specs.Run.{Run}
use Rattle.tree.specs.Reading.{Spells}
use Rattle.tree.specs.Grounds.{TextSays}
use Rattle.stretch.specs.Stretch.{SomeStretch}

-- The nodes a to b of a text are a stretch: one of the run that spells the text.
pub record IsStretch (s : List ℕ) (a b : ℕ) : Type 0 where
  pub run : Run
  pub spells : Spells run s
  pub stretch : SomeStretch run a b

-- What is said of the nodes a to b of a text: a run that is not a stretch gives no place.
abbrev pub StretchSays : List ℕ → ℕ → ℕ → Said → Type 0
StretchSays s a b =
    TextSays s
    then GivenIf (¬ IsStretch s a b) 15 Nothing
