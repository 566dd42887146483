use Rattle.std.proofs.Common.{◌∙◌}
use Rattle.deck.proofs.Numbers.{be_number16}
use Rattle.deck.proofs.bytes.number.Goals as goal

pub returns : goal.returns
returns c = c.from_be_bytes.ensures ∙ be_number16 _ _
