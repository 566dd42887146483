-- `best::scratch::fill_items`: the items passed have their keys.
use Rattle.best.specs.inner.Scratch.{standing_of, items_of, ItemsFilled}
use Rattle.best.proofs.scratch.fill_items.Given as goal

abbrev pub invariant-loop-y : goal.invariant-loop-y
invariant-loop-y l = ItemsFilled (items_of (standing_of l.count l.numbers l.lefts l.unders) l.scores) l.initial.scratch l.y l.scratch
