-- `best::scratch::best_in`: the highest is looked at, and taken off with what is left of it.
use Rattle.std.proofs.Common.{◌^◌, ◌<◌}
use Rattle.optimum.specs.inner.Table.{stored}
use Rattle.best.specs.inner.Scratch.{key_at, row_bank}
use Rattle.best.proofs.Banks.{Searched}
use Rattle.best.proofs.scratch.best_in.Given as goal

abbrev pub invariant-loop-rest : goal.invariant-loop-rest
invariant-loop-rest l = (l.rest < 2 ^ 64) × Searched l.mask (key_at l.scratch row_bank) l.rest (stored l.best.total l.best.mask)

abbrev pub decreases-loop-rest : goal.decreases-loop-rest
decreases-loop-rest l = l.rest
