use Rattle.std.proofs.Common.{length, refl, sym, ap, ◌∙◌, arith}
use mathlib.Core.List.{flatten}
use Rattle.seed.specs.Tab.{tab}
use Rattle.table.specs.Rows.{present_rows}
use Rattle.plain.specs.Plain.{plain_pairs}
use Rattle.plain.specs.inner.Writing.{pair_part}
use Rattle.plain.proofs.Turns.{pairing_all, pairing_same, pairing_same_long, pairing_room, pairing_few, pairing_more}
use Rattle.plain.proofs.parts.put_pairs.Goals as goal
use Rattle.plain.proofs.parts.put_pairs.Goals.{then-table-i, else-table-i}

pub loop-i-init : goal.loop-i-init
unfolding present_rows tab flatten pair_part plain_pairs
loop-i-init c = record { few = omega arith; as_long = refl; place = omega arith; number = refl; wrote = refl }

pub put_chain-n-requires : goal.put_chain-n-requires
put_chain-n-requires c =
    let pre = c.requires in
    let w = c.loop-i.invariant in
    let l = c.loop-i-test.true in
    let e = c.if-table-i.true in
    let is-qs = ap length c.nodes_of-qs.ensures in
    let is-ts = ap length c.nodes_of-ts.ensures in
    record {
      as_many = is-ts ∙ pairing_same_long _ _ pre.laid w l e ∙ sym is-qs;
      few = omega (arith, is-qs, pairing_few _ _ pre.laid w l e);
      room = omega (arith, is-qs, pairing_room _ _ pre.laid w l e pre.room);
    }

pub overflow_mul-at : goal.overflow_mul-at
overflow_mul-at c =
    let n = c.put_chain-n.ensures.count ∙ ap length c.nodes_of-qs.ensures in
    omega (arith, n, pairing_few _ _ c.requires.laid c.loop-i.invariant c.loop-i-test.true c.if-table-i.true)

pub overflow_add-at : goal.overflow_add-at
overflow_add-at c =
    let n = c.put_chain-n.ensures.count ∙ ap length c.nodes_of-qs.ensures in
    omega (arith, n, pairing_room _ _ c.requires.laid c.loop-i.invariant c.loop-i-test.true c.if-table-i.true c.requires.room)

pub loop-i-preserved : goal.loop-i-preserved
loop-i-preserved c = elim c.if-table-i.branch [
  | then-table-i w ↦
      let put = w.put_chain-n.ensures in
      rw (w.out-is, w.at-is, w.k-is) (pairing_more _ _ c.requires.laid c.loop-i.invariant c.loop-i-test.true w.if-table-i.true _ _ _ _ w.nodes_of-qs.ensures w.nodes_of-ts.ensures put.count put.wrote)
  | else-table-i w ↦ rw (w.out-is, w.at-is, w.k-is) (pairing_same _ _ c.requires.laid c.loop-i.invariant c.loop-i-test.true w.if-table-i.false)
]

pub returns : goal.returns
returns c = pairing_all _ _ c.loop-i.invariant c.loop-i-test.false
