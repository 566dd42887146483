use Rattle.std.proofs.Common.{sym, ◌∙◌}
use Rattle.seed.specs.Tests.{rises}
use Rattle.seed.proofs.PairLists.{cut_first, cut_second, both_no, both_by}
use Rattle.judge.proofs.both_rise.Goals as goal

pub slice_bounds-rises-end : goal.slice_bounds-rises-end
slice_bounds-rises-end c = cut_first _ _ c.pair_count-count.ensures

pub slice_bounds-rises-end-then-rises : goal.slice_bounds-rises-end-then-rises
slice_bounds-rises-end-then-rises c = cut_second _ _ c.pair_count-count.ensures

pub returns-then-rises : goal.returns-then-rises
returns-then-rises c = c.rises-then-rises.ensures ∙ sym (both_by _ _ c.pair_count-count.ensures rises rises (sym c.rises.ensures ∙ c.if-rises.true))

pub returns-else-rises : goal.returns-else-rises
returns-else-rises c = c.if-rises.false ∙ sym (both_no _ _ c.pair_count-count.ensures rises rises (sym c.rises.ensures ∙ c.if-rises.false))
