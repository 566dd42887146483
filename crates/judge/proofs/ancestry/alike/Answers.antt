use Rattle.std.proofs.Common.{sym, ◌∙◌, arith}
use Rattle.seed.specs.Tests.{alike}
use Rattle.seed.proofs.PairLists.{count_first}
use Rattle.seed.proofs.Scans.{scan_start, scan_no, scan_on, scan_end}
use Rattle.judge.proofs.Rising.{ups_grow, rises_ups, bytes_few, cut_early}
use Rattle.judge.proofs.Rows.{rows_start, row_put, alike-looked}
use Rattle.judge.proofs.ancestry.alike.Goals as goal

pub loop-place-init : goal.loop-place-init
loop-place-init c =
    let risen = c.requires in
    let few = bytes_few c.args.qs.now (rises_ups _ risen.rise_q) (λ k. omega (arith, c.type_inv.qs k)) in (
      rows_start risen _ (omega (arith, few, c.told-rows)),
      scan_start (sym (count_first _ _ (omega (arith, risen.same)))),
    )

pub cuts-requires-clause-rising : goal.cuts-requires-clause-rising
cuts-requires-clause-rising c = rises_ups _ c.requires.rise_t

pub cuts-requires-clause-within : goal.cuts-requires-clause-within
cuts-requires-clause-within c = omega (arith, c.row_start-start.ensures.within, c.requires.same)

pub returns-then-not-cuts : goal.returns-then-not-cuts
unfolding alike
returns-then-not-cuts c =
    let taken = c.loop-place-test.true in
    sym (scan_no c.loop-place.invariant.1 taken (alike-looked c.requires _ _ taken c.row_start-start.ensures c.leaf_at-low.ensures c.cuts.ensures ∙ c.if-not-cuts.true))

pub overflow_cast-rows : goal.overflow_cast-rows
overflow_cast-rows c =
    let risen = c.requires in
    let place = c.loop-place.place in
    let qs = c.args.qs.now in
    omega (arith, cut_early risen.tree_q qs place c.row_start-start.ensures, ups_grow qs (rises_ups _ risen.rise_q) place c.loop-place-test.true, c.type_inv.qs place)

pub loop-place-preserved : goal.loop-place-preserved
loop-place-preserved c =
    let risen = c.requires in
    let inv = c.loop-place.invariant in
    let taken = c.loop-place-test.true in (
      row_put inv.0 taken _ c.row_start-start.ensures,
      scan_on inv.1 taken (alike-looked risen _ _ taken c.row_start-start.ensures c.leaf_at-low.ensures c.cuts.ensures ∙ c.if-not-cuts.false),
    )

pub returns : goal.returns
unfolding alike
returns c = sym (scan_end c.loop-place.invariant.1 c.loop-place-test.false)
