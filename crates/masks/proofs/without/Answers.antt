-- `masks::without`.
use Rattle.masks.proofs.Bits.{minus_is}
use Rattle.masks.proofs.without.Goals as goal

pub returns : goal.returns
returns c = minus_is _ _ c.ranges.mask.fits c.ranges.other.fits
