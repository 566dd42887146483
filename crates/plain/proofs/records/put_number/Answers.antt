use Rattle.std.proofs.Common.{◌∙◌, arith}
use Rattle.plain.proofs.Scores.{be_bytes16}
use Rattle.plain.proofs.Writing.{copied, bytes16_length}
use Rattle.plain.proofs.records.put_number.Goals as goal

pub returns : goal.returns
returns c =
    copied _ _ _ _ _ (c.copy_from_slice.ensures.after ∙ c.to_be_bytes.ensures ∙ be_bytes16 c.args.n c.ranges.n.fits)
    (omega (arith, bytes16_length c.args.n)) (omega (arith, bytes16_length c.args.n))
