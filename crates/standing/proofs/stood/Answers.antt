-- `standing::stood`: the seeds in order, and how they stand.
use Rattle.standing.proofs.Arrays.{lawful, stood_is}
use Rattle.standing.proofs.stood.Goals as goal

pub relate-requires-clause-lawful : goal.relate-requires-clause-lawful
relate-requires-clause-lawful c = rw (c.leaves-lt.ensures.leaves, c.leaves-lq.ensures.leaves) (lawful _ _ _ c.requires.kept _ c.ordered-order.ensures)

pub returns : goal.returns
returns c =
    λ scores kept.
    stood_is _ _ _ kept _ c.ordered-order.ensures _
    (rw (c.leaves-lt.ensures.leaves, c.leaves-lq.ensures.leaves) at c.relate.ensures.related)
    c.relate.ensures.count
    c.relate.ensures.numbers
