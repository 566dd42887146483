-- `masks::highest`.
use Rattle.masks.proofs.Top.{some_digit, highest_is, highest_none}
use Rattle.masks.proofs.highest.Goals as goal

pub returns-then-mask-eq0 : goal.returns-then-mask-eq0
returns-then-mask-eq0 c = rw c.if-mask-eq0.true highest_none

pub overflow_sub-result : goal.overflow_sub-result
overflow_sub-result c = some_digit _ c.if-mask-eq0.false c.ranges.mask.fits

pub returns : goal.returns
returns c = highest_is _ c.if-mask-eq0.false c.ranges.mask.fits
