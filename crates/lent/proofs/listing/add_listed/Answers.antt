use mir.Facts.{to_z-of_z}
use Rattle.lent.specs.inner.Listing.{held_in}
use Rattle.lent.proofs.listing.add_listed.Goals as goal

pub returns-clause-does : goal.returns-clause-does
unfolding held_in
returns-clause-does c = rw (to_z-of_z c.ranges.score) at c.added.ensures.does
