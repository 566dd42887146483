use Rattle.std.proofs.Common.{◌∙◌}
use native.Mathlib.Numerals.{add-one, add-two}
use Rattle.plain.specs.Plain.{pair_bytes}
use Rattle.plain.proofs.records.put_pair.Goals as goal

pub returns : goal.returns
unfolding pair_bytes
returns c = c.put_number.ensures ∙ rw (add-two c.args.at, add-one c.args.at)
