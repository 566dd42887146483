use Rattle.std.proofs.Common.{◌≡◌, arith}
use Rattle.judge.proofs.Rows.{row_less, row_on, row_cut}
use Rattle.judge.proofs.ancestry.row_start.Goals as goal

pub returns-then-xs-start : goal.returns-then-xs-start
returns-then-xs-start c =
    let pre = c.requires in
    let inv = c.loop-start.invariant in
    row_cut pre.rows pre.place_in inv.1 (λ h. omega (arith, c.if-xs-start.true, inv.0))

pub loop-start-smaller : goal.loop-start-smaller
loop-start-smaller c = row_less c.requires.rows c.requires.place_in c.loop-start.invariant.1 c.loop-start-test.true

pub loop-start-preserved : goal.loop-start-preserved
loop-start-preserved c =
    let pre = c.requires in
    let inv = c.loop-start.invariant in
    (inv.0, row_on pre.rows pre.place_in inv.1 c.loop-start-test.true (omega (arith, c.if-xs-start.false, inv.0)))

pub returns : goal.returns
returns c =
    let pre = c.requires in
    let none : c.loop-start.start ≡ 0 = omega arith in
    row_cut pre.rows pre.place_in (rw none at c.loop-start.invariant.1) (λ h. absurd (omega arith))
