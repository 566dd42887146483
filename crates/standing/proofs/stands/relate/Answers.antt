-- `standing::stands::relate`: the seed at y has its last pair and its masks.
use Rattle.std.proofs.Common.{ap, ◌∙◌, arith}
use Rattle.seed.specs.Seed.{last_pair}
use Rattle.standing.proofs.Relating.{lasts_turn, pairs_by_lem, masks_same, composed, related_turn}
use Rattle.standing.proofs.stands.relate.Goals as goal

pub masks_at-m-requires-clause-composed : goal.masks_at-m-requires-clause-composed
masks_at-m-requires-clause-composed c =
    let inv = c.loop-y.invariant in
    composed _ _ c.requires.few _ c.loop-y-test.true _ _ inv.0 (pairs_by_lem _ _ _ _ c.nodes_of-uq.ensures c.nodes_of-ut.ensures) _ _ c.requires.lawful _ _ inv.1

pub loop-y-preserved : goal.loop-y-preserved
loop-y-preserved c =
    let inv = c.loop-y.invariant in
    let pairs = pairs_by_lem _ _ _ _ c.nodes_of-uq.ensures c.nodes_of-ut.ensures in (
      lasts_turn _ _ _ _ (omega (arith, c.requires.few)) inv.0 (c.last_pair-u.ensures ∙ ap last_pair pairs),
      related_turn _ _ _ _ _ _ _ (omega (arith, c.requires.few)) inv.1 (c.masks_at-m.ensures ∙ masks_same _ _ c.requires.few _ c.loop-y-test.true _ _ inv.0 pairs _ _),
    )
