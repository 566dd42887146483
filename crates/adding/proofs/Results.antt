-- What a judgement answers by its result.
use Rattle.std.proofs.Common.{◌≡◌, ap, Result}
use Rattle.answer.specs.Refusal.{result_of, answer_in}
use Rattle.answer.specs.declared.Refusal.{Refusal}
use Rattle.answer.specs.Answer.{Answer, Accepted, Refused}

pub answer_of : {x : Result (Unit {0}) Refusal} (a : Answer) → x ≡ result_of a tt → answer_in x ≡ a
answer_of Accepted e = ap answer_in e
answer_of (Refused g p) e = ap answer_in e
