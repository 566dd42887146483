-- `write::put_word`: without room nothing is put, and with it the whole word.
use Rattle.std.proofs.Common.{length, ◌∙◌, refl, sym, arith}
use Rattle.std.proofs.lemmas.Slice.{put_mid-paste}
use borrow.Author.Tests.{leb-true, leb-false}
use Rattle.write.proofs.Puts.{puts_not, puts_word}
use Rattle.write.proofs.put_word.Goals as goal

pub returns-then-not-has_room : goal.returns-then-not-has_room
returns-then-not-has_room c = puts_not _ _ _ (leb-false _ _ (sym c.has_room.ensures ∙ c.if-not-has_room.true))

pub returns : goal.returns
returns c =
    let size = length c.args.word.now in
    puts_word _ _ _ size (leb-true _ _ (sym c.has_room.ensures ∙ c.if-not-has_room.false)) refl (put_mid-paste _ _ _ _ _ size c.copy_from_slice.ensures.after (omega arith) refl)
