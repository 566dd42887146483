-- `best::keys::lowest`.
use Rattle.best.proofs.Members.{lowest_is}
use Rattle.best.proofs.keys.lowest.Goals as goal

pub returns : goal.returns
returns c = lowest_is _ c.requires c.ranges.mask.fits
