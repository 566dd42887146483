use Rattle.std.proofs.Common.{arith}
use mir.Facts.{to_z-of_z}
use borrow.Author.Rules.{sfits_of}
use Rattle.deck.specs.Deck.{seed_count}
use Rattle.deck.proofs.Records.{scored_none, scored_more, scored_all}
use Rattle.deck.proofs.layout.scored.Goals as goal

pub loop-i-init : goal.loop-i-init
unfolding seed_count
loop-i-init c = scored_none c.args.table c.args.deck.now _ c.requires.no_scores

pub score-requires : goal.score-requires
unfolding seed_count
score-requires c = omega (arith, c.requires.layout.exact, c.loop-i-test.true)

pub bounds-table-i : goal.bounds-table-i
unfolding seed_count
bounds-table-i c = omega (arith, c.requires.layout.seeds, c.loop-i-test.true)

pub loop-i-preserved : goal.loop-i-preserved
unfolding seed_count
loop-i-preserved c = rw (to_z-of_z (sfits_of c.score.type_inv)) (scored_more c.args.table c.args.deck.now _ c.loop-i.i _ c.requires.layout.seeds c.loop-i-test.true c.score.ensures c.loop-i.invariant)

pub returns : goal.returns
unfolding seed_count
returns c = scored_all c.args.table c.args.deck.now _ c.loop-i.i c.loop-i-test.false c.loop-i.invariant
