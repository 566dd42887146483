-- `standing::stands::stands_to`.
use Rattle.std.proofs.Common.{ltb, ap, arith}
use Rattle.standing.proofs.Relating.{stands_before, stands_behind}
use Rattle.standing.proofs.stands.stands_to.Goals as goal

pub returns-then-s-leaf_at : goal.returns-then-s-leaf_at
returns-then-s-leaf_at c = stands_before _ _ _ _ _ c.requires (omega (arith, c.if-s-leaf_at.true, c.leaf_at.ensures)) (ap (ltb _) c.leaf_at-then-s-leaf_at.ensures)

pub returns : goal.returns
returns c = stands_behind _ _ _ _ _ c.requires (omega (arith, c.if-s-leaf_at.false, c.leaf_at.ensures)) c.fits.ensures
