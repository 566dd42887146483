use Rattle.std.proofs.Common.{◌+◌, drop, ap, sym, ◌∙◌, arith}
use Rattle.lent.specs.inner.Listing.{with_pairs}
use Rattle.lent.specs.declared.listing.NodeLists.{NodeLists}
use Rattle.lent.proofs.Pairs.{pairs_step, pairs_end}
use Rattle.lent.proofs.listing.listed.Goals as goal

pub loop-pair-preserved : goal.loop-pair-preserved
loop-pair-preserved c =
    let ps = c.args.pairs.now in
    let i = c.loop-pair.pair-index in
    ap (λ (n : NodeLists). with_pairs (drop (i + 1) ps) n) c.push.ensures
    ∙ sym (pairs_step ps i _ c.loop-pair.nodes c.loop-pair-test.true)
    ∙ c.loop-pair.invariant

pub returns : goal.returns
returns c =
    sym (pairs_end c.args.pairs.now c.loop-pair.pair-index c.loop-pair.nodes (omega (arith, c.loop-pair-test.false, c.loop-pair.auto.pair-index-end)))
    ∙ c.loop-pair.invariant
