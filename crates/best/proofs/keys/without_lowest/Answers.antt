-- `best::keys::without_lowest`.
use Rattle.best.proofs.Members.{lowest_off}
use Rattle.best.proofs.keys.without_lowest.Goals as goal

pub returns : goal.returns
returns c = lowest_off _ _ c.requires.lowest
