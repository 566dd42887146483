use Rattle.std.proofs.Common.{w32, ap, ◌∙◌}
use mir.Facts.{to_z-of_z}
use borrow.Author.Rules.{sfits_of}
use Rattle.deck.specs.Deck.{signed}
use Rattle.deck.proofs.Numbers.{be_number32, be_signed}
use Rattle.deck.proofs.bytes.score.Goals as goal

pub returns : goal.returns
returns c = to_z-of_z {w = w32} (sfits_of c.from_be_bytes.type_inv) ∙ c.from_be_bytes.ensures ∙ be_signed _ ∙ ap signed (be_number32 _ _)
