-- What a chain of grounds says of the answer.
use mathlib.Core.Path.{◌≡◌, refl, sym, ap, ◌∙◌}
use mathlib.Core.Bool.{Bool, true, false, not}
use Rattle.answer.specs.Answer.{given, unless, Answer, Accepted, Refused}
use Rattle.answer.specs.declared.Ground.{Ground}
use Rattle.answer.specs.declared.Place.{Place}
use Rattle.answer.proofs.Denied.{denies}

-- A test that a call answered.
pub tested : {r b x : Bool} → r ≡ b → not r ≡ x → not b ≡ x
tested e t = ap not (sym e) ∙ t

-- An accepted answer passed its first ground.
pub not_given : (b : Bool) (g : Ground) (p : Place) (later : Answer) → given b g p later ≡ Accepted → (b ≡ false) × (later ≡ Accepted)
not_given true g p later e = absurd (denies {x = Refused g p} refl e)
not_given false g p later e = (refl, e)

pub not_refused : (a later : Answer) → unless a later ≡ Accepted → (a ≡ Accepted) × (later ≡ Accepted)
not_refused Accepted later e = (refl, e)
not_refused (Refused g p) later e = absurd (denies {x = Refused g p} refl e)

pub unless_refused : (a later : Answer) → (a ≡ Accepted → ⊥) → unless a later ≡ a
unless_refused Accepted later h = absurd (h refl)
unless_refused (Refused g p) later h = refl
