-- `line::put_refusal`: the number, the place and the line feed are put.
use Rattle.std.proofs.Common.{◌≡◌, ℕ, List, ◌++◌, refl, sym, ap, ◌∙◌, Result, Err}
use Rattle.answer.specs.Answer.{number_of, said, refused}
use Rattle.answer.specs.Refusal.{answer_in}
use Rattle.answer.specs.declared.Refusal.{Refusal}
use Rattle.write.specs.Decimal.{bytes, decimal}
use Rattle.write.specs.Puts.{Room}
use Rattle.write.proofs.Puts.{room_first, room_last, puts_both, puts_none}
use Rattle.lines.specs.Lines.{place_words, refusal_line}
use Rattle.lines.proofs.line.put_refusal.Goals as goal

-- The line of a refusal, by the number that was found for its ground.
line-is : {n : ℕ} {a : Result (Unit {0}) Refusal} {r : Refusal} → a ≡ Err r → n ≡ number_of r.ground → refusal_line (said (answer_in a)) ≡ bytes "refused " ++ decimal n ++ place_words r.place ++ bytes "\n"
unfolding refusal_line
line-is {r = r} is numbered = ap (λ (x : Result (Unit {0}) Refusal). refusal_line (said (answer_in x))) is ∙ ap (λ (k : ℕ). refusal_line (refused k r.place)) (sym numbered)

line-room : {n : ℕ} {a : Result (Unit {0}) Refusal} {r : Refusal} {out : List ℕ} → Room (refusal_line (said (answer_in a))) 0 out → a ≡ Err r → n ≡ number_of r.ground → Room (bytes "refused " ++ decimal n ++ place_words r.place) 0 out
line-room room is numbered = room_first room (bytes "\n") (line-is is numbered)

pub put_numbered-behind_ground-requires : goal.put_numbered-behind_ground-requires
put_numbered-behind_ground-requires c = room_first (line-room c.requires c.in-Err.is c.number.ensures) (place_words _) refl

pub put_place-behind_place-requires : goal.put_place-behind_place-requires
put_place-behind_place-requires c = room_last (line-room c.requires c.in-Err.is c.number.ensures) c.put_numbered-behind_ground.ensures refl

pub returns-in-Ok : goal.returns-in-Ok
unfolding refusal_line
returns-in-Ok c = puts_none c.requires (ap (λ (a : Result (Unit {0}) Refusal). refusal_line (said (answer_in a))) c.in-Ok.is)

pub returns-in-Err : goal.returns-in-Err
returns-in-Err c =
    let numbered = c.number.ensures in
    puts_both c.requires (puts_both (line-room c.requires c.in-Err.is numbered) c.put_numbered-behind_ground.ensures refl c.put_place-behind_place.ensures) (line-is c.in-Err.is numbered) c.put_word.ensures
