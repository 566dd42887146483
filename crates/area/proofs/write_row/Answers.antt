use Rattle.std.proofs.Common.{sym, arith}
use Rattle.seed.proofs.Below.{small_last}
use Rattle.area.proofs.AreaSteps.{begins_in, row_skipped, row_written}
use Rattle.area.proofs.write_row.Goals as goal

pub returns-then-not-begins : goal.returns-then-not-begins
returns-then-not-begins c = row_skipped _ _ _ _ c.first_like-c.ensures c.requires.room (sym c.if-not-begins.ensures)

pub offset_bounds-h-c : goal.offset_bounds-h-c
offset_bounds-h-c c = let u = begins_in _ _ _ _ (sym c.if-not-begins.ensures) in omega arith

pub bounds-h-c : goal.bounds-h-c
bounds-h-c c = begins_in _ _ _ _ (sym c.if-not-begins.ensures)

pub overflow_cast-bytes-2 : goal.overflow_cast-bytes-2
overflow_cast-bytes-2 c = let u = small_last _ _ _ c.last_like-b.ensures (omega arith) in omega arith

pub overflow_cast-bytes-3 : goal.overflow_cast-bytes-3
overflow_cast-bytes-3 c = let u = begins_in _ _ _ _ (sym c.if-not-begins.ensures) in omega arith

pub overflow_cast-bytes-4 : goal.overflow_cast-bytes-4
overflow_cast-bytes-4 c =
    let u = begins_in _ _ _ _ (sym c.if-not-begins.ensures) in
    let v = small_last _ _ _ c.last_like-d.ensures (omega arith) in
    omega arith

pub returns : goal.returns
returns c = row_written _ _ _ _ c.first_like-c.ensures (sym c.if-not-begins.ensures) _ _ c.last_like-b.ensures c.last_like-d.ensures c.put_word.ensures
