-- A call's result: the value of an accepted call, or its refusal; what it answers, and what is printed of a refusal.
use Rattle.std.specs.Prelude.{Result, Ok, Err, List, [], ◌++◌, ℕ, codes}
use Rattle.std.specs.Fmt.{decimal}
use Rattle.answer.specs.Answer.{number_of, Answer, Accepted, Refused}
use Rattle.answer.specs.declared.Ground.{Ground}
use Rattle.answer.specs.declared.Place.{Place}
use Rattle.answer.specs.declared.Place.TheVariants.{ByteInQ, ByteInT, Seed, Nothing}
use Rattle.answer.specs.declared.Refusal.{Refusal}

-- The binder names the field, without which `ground` would be a tactic's word here.
abbrev pub refusal_at : (ground : Ground) (place : Place) → Refusal
refusal_at ground place = record { ground = ground; place = place }

-- The result of a call that answers so, with this value if it is accepted.
abbrev pub result_of : {T : Type 0} → Answer → T → Result T Refusal
result_of Accepted value = Ok value
result_of (Refused g p) value = Err (refusal_at g p)

-- What a call with this result answers.
abbrev pub answer_in : {T : Type 0} → Result T Refusal → Answer
answer_in (Ok value) = Accepted
answer_in (Err refusal) = Refused refusal.ground refusal.place

-- What is printed of a refusal: the ground's number, and "Q" or "T" or "seed" with the place, if any, one space between.
abbrev pub placed : Place → List ℕ
placed (ByteInQ byte) = codes " Q " ++ decimal byte
placed (ByteInT byte) = codes " T " ++ decimal byte
placed (Seed number) = codes " seed " ++ decimal number
placed Nothing = []

abbrev pub refusal_text : Refusal → List ℕ
refusal_text refusal = codes "refused " ++ decimal (number_of refusal.ground) ++ placed refusal.place
