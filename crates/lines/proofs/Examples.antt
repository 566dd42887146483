-- Printed lines, computed from the definitions.
use mathlib.Core.Path.{◌≡◌, refl}
use mathlib.Core.Bool.{true, false}
use mathlib.Core.List.{[], ◌∷◌}
use lib.ListN.{replicate}
use Rattle.answer.specs.Answer.{said, Accepted, Refused}
use Rattle.answer.specs.declared.Ground.TheVariants.{TextLength, NeverClosed, PairNeverReached, BorderUnpaired}
use Rattle.answer.specs.declared.Place.TheVariants.{ByteInQ, ByteInT, Seed, Nothing}
use Rattle.write.specs.Decimal.{bytes, digits}
use Rattle.decimal.specs.Score.{two_digits, unsigned_text, number_text}
use Rattle.lines.specs.Lines.{score_line, member, members, chain_line, result_lines, place_words, refusal_line}

-- A chain of two seeds, and one without seeds.
pub results_printed : result_lines 5 (true ∷ true ∷ replicate 62 false) ∷ result_lines 0 (replicate 64 false) ∷ [] ≡ bytes "score 0.05\nchain 1 2\n" ∷ bytes "score 0.00\nchain\n" ∷ []
unfolding result_lines score_line chain_line members member digits number_text unsigned_text two_digits
results_printed = refl

pub refusals_printed :
    refusal_line (said (Refused TextLength (ByteInQ 0)))
    ∷ refusal_line (said (Refused PairNeverReached Nothing))
    ∷ refusal_line (said (Refused BorderUnpaired (Seed 64)))
    ∷ refusal_line (said (Refused NeverClosed (ByteInT 254)))
    ∷ refusal_line (said Accepted)
    ∷ []
    ≡ bytes "refused 1 Q 0\n" ∷ bytes "refused 8\n" ∷ bytes "refused 19 seed 64\n" ∷ bytes "refused 4 T 254\n" ∷ [] ∷ []
unfolding refusal_line place_words digits
refusals_printed = refl
