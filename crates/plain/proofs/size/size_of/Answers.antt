use Rattle.std.proofs.Common.{length, refl, ap, ◌∙◌, arith}
use mathlib.Core.List.{flatten}
use Rattle.seed.specs.Tab.{tab}
use Rattle.table.specs.Rows.{present_rows}
use Rattle.plain.specs.inner.Writing.{size_of}
use Rattle.plain.proofs.Turns.{size_same, size_more, passed_all}
use Rattle.plain.proofs.size.size_of.Goals as goal
use Rattle.plain.proofs.size.size_of.Goals.{then-table-i, else-table-i}

pub loop-i-init : goal.loop-i-init
unfolding present_rows tab flatten
loop-i-init c = refl

pub loop-i-preserved : goal.loop-i-preserved
loop-i-preserved c = elim c.if-table-i.branch [
  | then-table-i w ↦ w.size-is ∙ size_more c.args.table c.requires c.loop-i.invariant c.loop-i-test.true w.if-table-i.true (ap length w.nodes_of-part.ensures)
  | else-table-i w ↦ w.size-is ∙ size_same c.args.table c.requires c.loop-i.invariant c.loop-i-test.true w.if-table-i.false
]

pub returns : goal.returns
returns c = c.loop-i.invariant ∙ ap size_of (passed_all c.args.table c.loop-i.i (omega arith) c.loop-i-test.false)
