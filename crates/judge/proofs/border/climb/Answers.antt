use Rattle.std.proofs.Common.{arith}
use Rattle.judge.specs.inner.Steps.Passed.{bare}
use Rattle.judge.proofs.Climbs.{climb_no, climb_left, climb_on, climb_end, climb_bare}
use Rattle.judge.proofs.border.climb.Goals as goal
use Rattle.judge.proofs.border.climb.Goals.{then-loop-x-test+else-leaf_at-x, else-loop-x-test}

pub returns-in_err-left : goal.returns-in_err-left
returns-in_err-left c =
    let pre = c.requires in
    let inv = c.loop-x.invariant in
    rw c.from_residual.ensures
    (bare (climb_no pre.listed _ pre.more inv.2 (omega (arith, inv.0, c.loop-x-test.true)) c.leaf_at.ensures c.if-leaf_at-x.true c.joined.ensures c.in_err-left.was))

pub bounds-tops-left : goal.bounds-tops-left
bounds-tops-left c =
    let pre = c.requires in
    let inv = c.loop-x.invariant in
    omega (arith, inv.1, c.loop-x-test.true, inv.2.past.highest.few, climb_left pre.listed _ pre.more inv.2 (omega (arith, inv.0, c.loop-x-test.true)) c.leaf_at.ensures c.if-leaf_at-x.true c.joined.ensures c.in_ok-left.was)

pub overflow_add-count : goal.overflow_add-count
overflow_add-count c =
    let pre = c.requires in
    let inv = c.loop-x.invariant in
    omega (arith, inv.1, c.loop-x-test.true, inv.2.past.highest.few, climb_left pre.listed _ pre.more inv.2 (omega (arith, inv.0, c.loop-x-test.true)) c.leaf_at.ensures c.if-leaf_at-x.true c.joined.ensures c.in_ok-left.was)

pub loop-x-preserved : goal.loop-x-preserved
loop-x-preserved c =
    let pre = c.requires in
    let inv = c.loop-x.invariant in (
      inv.0,
      inv.1,
      climb_on pre.listed _ pre.more inv.2 (omega (arith, inv.0, c.loop-x-test.true)) c.leaf_at.ensures c.if-leaf_at-x.true c.joined.ensures c.in_ok-left.was (omega (arith, inv.1, c.loop-x-test.true)),
    )

pub returns-then-reaches : goal.returns-then-reaches
returns-then-reaches c =
    climb_bare c.requires.listed _ c.requires.more c.loop-x.invariant.2 c.reaches.ensures c.if-reaches.true
    (λ h. elim c.loop-x-test.branch [ then-loop-x-test+else-leaf_at-x w ↦ omega (arith, w.leaf_at.ensures, w.if-leaf_at-x.false) | else-loop-x-test w ↦ absurd (omega (arith, w.loop-x-test.false)) ])

pub returns : goal.returns
returns c = climb_end c.requires.listed _ c.requires.more c.loop-x.invariant.2 c.reaches.ensures c.if-reaches.false
