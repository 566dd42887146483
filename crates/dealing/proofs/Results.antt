-- What a result says of the answer that it comes from.
use Rattle.std.proofs.Common.{◌≡◌, ap, Ok, Err}
use Rattle.answer.specs.Refusal.{refusal_at, result_of}
use Rattle.answer.specs.Answer.{Answer, Accepted, Refused}
use Rattle.answer.specs.declared.Refusal.{Refusal}

pub refused_by : {T : Type 0} (a : Answer) (x : T) {r : Refusal} → result_of a x ≡ Err r → a ≡ Refused r.ground r.place
refused_by Accepted x e = absurd (cc)
refused_by (Refused g p) x {r} e = let f : refusal_at g p ≡ r = cc in ap (λ (s : Refusal). Refused s.ground s.place) f

pub accepted_by : {T : Type 0} (a : Answer) (x : T) {y : T} → result_of a x ≡ Ok y → a ≡ Accepted
accepted_by Accepted x e = cc
accepted_by (Refused g p) x e = absurd (cc)

pub value_by : {T : Type 0} (a : Answer) (x : T) {y : T} → result_of a x ≡ Ok y → x ≡ y
value_by Accepted x e = cc
value_by (Refused g p) x e = absurd (cc)
