use mir.Facts.{to_z-of_z}
use Rattle.lent.proofs.Pairs.{listed_filled, add_listed}
use Rattle.lent.proofs.add.Goals as goal

pub add_listed-requires : goal.add_listed-requires
add_listed-requires c = rw c.listed.ensures (listed_filled c.args.pairs.now)

pub returns-clause-does : goal.returns-clause-does
returns-clause-does c =
    add_listed c.args.session c.args.pairs.now c.args.score
    (rw (to_z-of_z c.ranges.score, c.listed.ensures) at c.add_listed.ensures.does)
