-- The stretches of document 01's two structures, computed from the definitions.
use mathlib.Core.Path.{◌≡◌, refl}
use mathlib.Core.List.{[], ◌∷◌}
use Rattle.answer.specs.Answer.{said}
use Rattle.answer.specs.Answer.Said.{refused}
use Rattle.answer.specs.declared.Place.TheVariants.{ByteInQ, Nothing}
use Rattle.character.specs.Character.{meaning_of}
use Rattle.tree.specs.Reading.{bad_length, reading}
use Rattle.tree.proofs.Examples.{A, B}
use Rattle.stretch.specs.Stretch.{stretch_in, check_of, part_of}

-- The stretches of document 01's areas, and runs that are none: across siblings of two nodes, turned round, with the added root, past it; texts that are refused.
parts : (part_of A 0 2 ≡ 46 ∷ 40 ∷ 46 ∷ 41 ∷ []) × (part_of A 4 4 ≡ 46 ∷ []) × (part_of B 0 0 ≡ 46 ∷ []) × (part_of B 2 3 ≡ 40 ∷ 46 ∷ 41 ∷ []) × (part_of A 0 4 ≡ A)
unfolding part_of reading bad_length meaning_of stretch_in
parts = (refl, refl, refl, refl, refl)

none : (said (check_of A 0 1) ≡ refused 15 Nothing) × (said (check_of A 2 1) ≡ refused 15 Nothing) × (said (check_of A 4 5) ≡ refused 15 Nothing) × (said (check_of A 6 6) ≡ refused 15 Nothing) × (said (check_of (40 ∷ []) 0 0) ≡ refused 4 (ByteInQ 0)) × (said (check_of (60 ∷ 41 ∷ []) 0 0) ≡ refused 24 (ByteInQ 1))
unfolding check_of reading bad_length meaning_of stretch_in
none = (refl, refl, refl, refl, refl, refl)
