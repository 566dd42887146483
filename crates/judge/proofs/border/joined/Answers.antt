use Rattle.std.proofs.Common.{arith}
use Rattle.judge.specs.inner.Steps.Joined.{broken}
use Rattle.judge.proofs.Tops.{down_start, down_on, down_no, down_end}
use Rattle.judge.proofs.border.joined.Goals as goal

pub loop-end-init : goal.loop-end-init
loop-end-init c =
    let pre = c.requires in
    (c.leaf_at-low.ensures, omega (arith, pre), λ f tree t e h. rw c.leaf_at-end.ensures (down_start tree t pre.some e h))

pub returns-then-left-eq0 : goal.returns-then-left-eq0
returns-then-left-eq0 c =
    let inv = c.loop-end.invariant in
    λ f tree t e h. broken (down_no tree t (inv.2 f tree t e h) (omega (arith, inv.0, c.loop-end-test.true)) (λ s d. omega (arith, c.if-left-eq0.true)))

pub returns-then-top-end : goal.returns-then-top-end
returns-then-top-end c =
    let inv = c.loop-end.invariant in
    λ f tree t e h. broken (down_no tree t (inv.2 f tree t e h) (omega (arith, inv.0, c.loop-end-test.true)) (λ s d. c.if-top-end.true d))

pub loop-end-preserved : goal.loop-end-preserved
loop-end-preserved c =
    let inv = c.loop-end.invariant in (
      inv.0,
      omega (arith, inv.1),
      λ f tree t e h. rw c.leaf_at-end-in-loop-end.ensures (down_on tree t (inv.2 f tree t e h) (omega (arith, inv.0, c.loop-end-test.true)) (omega arith) c.if-top-end.false),
    )

pub returns : goal.returns
returns c =
    let inv = c.loop-end.invariant in
    λ f tree t e h. down_end tree t (inv.2 f tree t e h) (omega (arith, inv.0, c.loop-end-test.false))
