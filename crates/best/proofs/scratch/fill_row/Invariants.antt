-- `best::scratch::fill_row`: the members are taken off from the lowest on.
use Rattle.std.proofs.Common.{ℕ, ◌≤◌}
use Rattle.optimum.specs.inner.Table.{stored}
use Rattle.best.specs.inner.Scratch.{RowFilled}
use Rattle.best.proofs.Members.{Left}
use Rattle.best.proofs.scratch.fill_row.Given as goal

abbrev pub invariant-loop-rest : goal.invariant-loop-rest
invariant-loop-rest l = (k : ℕ) × (k ≤ l.n) × Left l.row k l.rest × RowFilled l.initial.scratch l.lefts l.row k l.scratch (stored l.best.total l.best.mask)

abbrev pub decreases-loop-rest : goal.decreases-loop-rest
decreases-loop-rest l = l.rest
