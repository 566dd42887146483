-- `best::scratch::fill_row`: the members are taken off from the lowest on.
use Rattle.std.proofs.Common.{◌+◌, arith}
use Rattle.best.proofs.Members.{left_start, left_none, left_past, left_from, left_has, left_next}
use Rattle.best.proofs.Rows.{row_start, row_room, row_turn, row_past}
use Rattle.best.proofs.scratch.fill_row.Goals as goal

pub loop-rest-init : goal.loop-rest-init
loop-rest-init c = (0, omega arith, left_start _ c.ranges.row.fits, row_start _ _ _)

pub returns-then-n-k : goal.returns-then-n-k
returns-then-n-k c =
    let inv = c.loop-rest.invariant in
    row_past _ _ _ _ _ _ inv.3 inv.1 (λ j a b. left_past inv.2 c.lowest-k.ensures j a (omega arith))

pub entry-key-requires : goal.entry-key-requires
entry-key-requires c =
    let inv = c.loop-rest.invariant in
    let low = c.lowest-k.ensures in
    row_room _ _ _ _ c.requires _ (omega (arith, c.if-n-k.false)) _ (row_past _ _ _ _ _ _ inv.3 (left_from inv.2 low) (left_past inv.2 low)) (rw (left_has inv.2 low) tt)

pub loop-rest-preserved : goal.loop-rest-preserved
loop-rest-preserved c =
    let inv = c.loop-rest.invariant in
    let low = c.lowest-k.ensures in (
      c.lowest-k.result + 1,
      omega (arith, c.if-n-k.false),
      rw c.without_lowest-rest.ensures (left_next inv.2 low),
      row_turn _ _ _ _ c.requires _ (omega (arith, c.if-n-k.false)) _ (row_past _ _ _ _ _ _ inv.3 (left_from inv.2 low) (left_past inv.2 low)) (left_has inv.2 low) _ _ _ c.entry-key.ensures c.put.ensures c.better_of-best.ensures,
    )

pub returns : goal.returns
returns c =
    let inv = c.loop-rest.invariant in
    row_past _ _ _ _ _ _ inv.3 inv.1 (λ j a b. left_none inv.2 c.loop-rest-test.false j a (omega (arith, c.requires.few)))
