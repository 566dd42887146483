-- `best::keys::has`.
use Rattle.std.proofs.Common.{refl}
use Rattle.optimum.specs.Key.{in_mask}
use Rattle.best.proofs.keys.has.Goals as goal

pub returns : goal.returns
unfolding in_mask
returns c = refl
