use Rattle.std.proofs.Common.{◌≡◌, ◌+◌, ◌-◌, sym, length, arith}
use Rattle.seed.specs.Seed.{last_node}
use Rattle.judge.specs.inner.Steps.{Past}
use Rattle.judge.proofs.JudgeSteps.{last_node_at}
use Rattle.judge.proofs.Climbs.{past_start, past_end, passed_on}
use Rattle.judge.proofs.border.bordered.Goals as goal

pub loop-place-init : goal.loop-place-init
loop-place-init c = (omega arith, past_start c.requires _ c.told-tops)

pub loop-place-preserved : goal.loop-place-preserved
loop-place-preserved c =
    let e : c.loop-place.place - 1 + 1 ≡ c.loop-place.place + 1 - 1 = omega arith in
    (omega arith, rw e at (passed_on c.in-Some.ensures))

pub returns : goal.returns
returns c =
    let inv = c.loop-place.invariant in
    let xs = c.args.xs.now in
    let end : c.loop-place.place - 1 ≡ length xs - 1 = omega (arith, inv.0) in
    let past : Past c.args.l.now xs c.loop-place.tops c.loop-place.count (last_node xs) = rw (last_node_at xs, ← end) inv.1 in
    sym (past_end c.requires past)
