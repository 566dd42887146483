-- `line::put_numbered`: the word is put and then the number.
use Rattle.std.proofs.Common.{refl}
use Rattle.write.proofs.Puts.{puts_both}
use Rattle.lines.proofs.line.put_numbered.Goals as goal

pub returns : goal.returns
returns c = puts_both c.requires c.put_word-next.ensures refl c.put_decimal.ensures
