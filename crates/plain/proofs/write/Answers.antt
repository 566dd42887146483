use Rattle.std.proofs.Common.{◌≡◌, ◌≤◌, arith}
use Rattle.table.specs.Rows.{present_rows}
use Rattle.table.specs.Table.{rows_of, Laid}
use Rattle.table.specs.declared.Table.{Table}
use Rattle.plain.specs.declared.size.Size.{Size}
use Rattle.plain.specs.inner.Writing.{size_of}
use Rattle.plain.proofs.Present.{seeds_few, pairs_few}
use Rattle.plain.proofs.PlainForm.{writes_none, writes_all}
use Rattle.plain.proofs.write.Goals as goal

-- How much is to be written.
few : (t : Table) → Laid t → {size : Size} → size ≡ size_of (present_rows (rows_of t)) → (size.seeds ≤ 64) × (size.pairs ≤ 1024)
few t h e = rw e (seeds_few t h, pairs_few t h)

pub overflow_mul-start : goal.overflow_mul-start
overflow_mul-start c = omega (arith, few _ c.requires c.size_of-size.ensures)

pub overflow_add-start : goal.overflow_add-start
overflow_add-start c = omega (arith, few _ c.requires c.size_of-size.ensures)

pub overflow_mul-length : goal.overflow_mul-length
overflow_mul-length c = omega (arith, few _ c.requires c.size_of-size.ensures)

pub overflow_add-length : goal.overflow_add-length
overflow_add-length c = omega (arith, few _ c.requires c.size_of-size.ensures)

pub returns-then-out-length : goal.returns-then-out-length
returns-then-out-length c = rw c.at.ensures (writes_none _ _ c.size_of-size.ensures _ c.if-out-length.true)

pub put_counts-requires : goal.put_counts-requires
put_counts-requires c = let n = few _ c.requires c.size_of-size.ensures in record { seeds = n.0; pairs = n.1; room = omega (arith, c.if-out-length.false) }

pub returns : goal.returns
returns c = writes_all _ _ c.size_of-size.ensures _ _ _ _ c.if-out-length.false c.put_counts.ensures c.put_seeds.ensures c.put_pairs.ensures
