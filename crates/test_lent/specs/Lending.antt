-- The pairs on a list by value.
use Rattle.std.specs.Prelude.{List, take}
use Rattle.seed.specs.declared.Pair.{Pair}
use Rattle.test_lent.specs.declared.PairList.{PairList}

-- The first of its array, as many as it counts.
abbrev pub pairs_on : PairList → List Pair
pairs_on l = take l.count l.pairs
