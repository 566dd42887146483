-- `best::scratch::best_in`: the highest is looked at, and taken off with what is left of it.
use Rattle.masks.proofs.Bits.{minus_small, minus_less, taken_off}
use Rattle.best.proofs.Banks.{search_start, search_turn, search_end}
use Rattle.best.proofs.scratch.best_in.Goals as goal

pub loop-rest-init : goal.loop-rest-init
loop-rest-init c = (c.ranges.mask.fits, search_start _ _)

pub loop-rest-smaller : goal.loop-rest-smaller
loop-rest-smaller c =
    let top = c.highest-k.ensures in
    rw (c.without-rest.ensures, c.bit.ensures.one top.few) (minus_less _ _ _ c.loop-rest.invariant.0 top.few (top.has c.loop-rest-test.true) (taken_off _ _))

pub loop-rest-preserved : goal.loop-rest-preserved
loop-rest-preserved c =
    let top = c.highest-k.ensures in
    (rw c.without-rest.ensures (minus_small _ _), search_turn c.requires c.loop-rest.invariant.1 _ top.few (top.has c.loop-rest-test.true) c.key_at-key.ensures c.better_of-best.ensures (rw (c.bit.ensures.one top.few) at c.without-rest.ensures))

pub returns : goal.returns
returns c = search_end c.requires c.loop-rest.invariant.1 c.loop-rest-test.false
