use Rattle.std.proofs.Common.{◌∙◌}
use Rattle.seed.proofs.PairLists.{count_least}
use Rattle.seed.proofs.pair_count.Goals as goal

pub returns : goal.returns
returns c = c.min.ensures ∙ count_least _ _
