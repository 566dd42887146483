use Rattle.std.proofs.Common.{◌≡◌, length, get_or, pos, w32, refl, ap, arith, rules}
use mathlib.Core.List.{flatten}
use mir.Val.{to_z, of_z}
use Rattle.seed.specs.Tab.{tab}
use Rattle.table.specs.Rows.{present_rows}
use Rattle.plain.specs.Plain.{plain_seeds}
use Rattle.plain.specs.inner.Writing.{seed_part}
use Rattle.plain.proofs.Turns.{seeding_all, seeding_same, seeding_room, seeding_few, seeding_more}
use Rattle.plain.proofs.parts.put_seeds.Goals as goal
use Rattle.plain.proofs.parts.put_seeds.Goals.{then-table-i, else-table-i}

pub loop-i-init : goal.loop-i-init
unfolding present_rows tab flatten seed_part plain_seeds
loop-i-init c = record { few = omega arith; as_long = refl; place = refl; number = refl; wrote = refl }

pub put_seed-requires : goal.put_seed-requires
put_seed-requires c =
    let h = c.requires in
    let w = c.loop-i.invariant in
    let l = c.loop-i-test.true in
    let e = c.if-table-i.true in
    record { first_fits = omega (arith, seeding_few _ h.laid w l e); room = seeding_room _ h.laid w l e h.room }

pub overflow_add-at : goal.overflow_add-at
overflow_add-at c = omega (arith, seeding_room _ c.requires.laid c.loop-i.invariant c.loop-i-test.true c.if-table-i.true c.requires.room)

pub overflow_add-k : goal.overflow_add-k
overflow_add-k c = omega (arith, seeding_few _ c.requires.laid c.loop-i.invariant c.loop-i-test.true c.if-table-i.true, ap length c.nodes_of-part.ensures)

-- A score is read from its bits.
pub loop-i-preserved : goal.loop-i-preserved
loop-i-preserved c =
    elim c.if-table-i.branch [
      | then-table-i w ↦
          let z : to_z w32 (of_z w32 (get_or c.args.table.scores c.loop-i.i (pos 0))) ≡ get_or c.args.table.scores c.loop-i.i (pos 0) = search rules in
          rw (w.out-is, w.at-is, w.k-is) (seeding_more _ c.requires.laid c.loop-i.invariant c.loop-i-test.true w.if-table-i.true _ _ _ z (ap length w.nodes_of-part.ensures) w.put_seed.ensures)
      | else-table-i w ↦ rw (w.out-is, w.at-is, w.k-is) (seeding_same _ c.requires.laid c.loop-i.invariant c.loop-i-test.true w.if-table-i.false)
    ]

pub returns : goal.returns
returns c = seeding_all _ c.loop-i.invariant c.loop-i-test.false
