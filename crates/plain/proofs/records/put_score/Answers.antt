use Rattle.std.proofs.Common.{◌∙◌, arith}
use mir.Facts.{to_z-of_z}
use Rattle.plain.specs.Plain.{unsigned}
use Rattle.plain.proofs.Scores.{be_score}
use Rattle.plain.proofs.Writing.{copied, bytes32_length}
use Rattle.plain.proofs.records.put_score.Goals as goal

pub returns : goal.returns
returns c =
    copied _ _ _ _ _ (c.copy_from_slice.ensures.after ∙ (rw (to_z-of_z c.ranges.score) at c.to_be_bytes.ensures) ∙ be_score c.args.score c.ranges.score.sfits)
    (omega (arith, bytes32_length (unsigned c.args.score))) (omega (arith, bytes32_length (unsigned c.args.score)))
