-- `line::put_score_line`: the word, the total and the line feed are put.
use Rattle.std.proofs.Common.{refl}
use Rattle.write.specs.Decimal.{bytes}
use Rattle.write.proofs.Puts.{room_first, puts_both}
use Rattle.lines.specs.Lines.{score_line}
use Rattle.lines.proofs.line.put_score_line.Goals as goal

pub returns : goal.returns
unfolding score_line
returns c = puts_both c.requires (puts_both (room_first c.requires (bytes "\n") refl) c.put_word-behind_word.ensures refl c.put_total-behind_total.ensures) refl c.put_word.ensures
