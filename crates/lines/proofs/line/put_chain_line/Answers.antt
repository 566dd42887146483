-- `line::put_chain_line`: the word, the numbers and the line feed are put.
use Rattle.std.proofs.Common.{refl}
use Rattle.write.specs.Decimal.{bytes}
use Rattle.write.proofs.Puts.{room_first, room_last, puts_both}
use Rattle.lines.specs.Lines.{chain_line}
use Rattle.lines.proofs.line.put_chain_line.Goals as goal

pub put_members-behind_members-requires : goal.put_members-behind_members-requires
unfolding chain_line
put_members-behind_members-requires c = room_last (room_first c.requires (bytes "\n") refl) c.put_word-behind_word.ensures refl

pub returns : goal.returns
unfolding chain_line
returns c = puts_both c.requires (puts_both (room_first c.requires (bytes "\n") refl) c.put_word-behind_word.ensures refl c.put_members-behind_members.ensures) refl c.put_word.ensures
