use Rattle.std.proofs.Common.{sym, ◌∙◌}
use Rattle.seed.proofs.Below.{last_found, last_next, last_none}
use Rattle.area.proofs.AreaSteps.{like_is}
use Rattle.area.proofs.last_like.Goals as goal

pub returns-then-meets : goal.returns-then-meets
returns-then-meets c = sym (c.loop-k.invariant ∙ last_found _ _ c.loop-k-test.true (like_is _ _ _ ∙ sym c.if-meets.ensures))

pub loop-k-preserved : goal.loop-k-preserved
loop-k-preserved c = c.loop-k.invariant ∙ last_next _ _ c.loop-k-test.true (like_is _ _ _ ∙ sym c.if-meets.ensures)

pub returns : goal.returns
returns c = sym (c.loop-k.invariant ∙ last_none _ _ c.loop-k-test.false)
