use Rattle.std.proofs.lemmas.Result.{err_from_is_err_and}
use mir.Facts.{to_z-of_z}
use Rattle.adding.proofs.Results.{answer_of}
use Rattle.adding.proofs.Next.{cut_q, cut_t, add_room, grows, grows_not}
use Rattle.adding.proofs.with_seed.Goals as goal

pub returns-in_err-judge_next : goal.returns-in_err-judge_next
returns-in_err-judge_next c =
    let p = err_from_is_err_and c.from_residual.result c.from_residual.ensures.1 in
    rw (p.1, p.2) (grows_not _ _ _ c.args.qs.now c.args.ts.now _ c.requires (answer_of _ (rw (to_z-of_z c.ranges.score) at c.in_err-judge_next.ensures)))

pub slice_bounds-appended-end : goal.slice_bounds-appended-end
slice_bounds-appended-end c = cut_q c.args.qs.now c.args.ts.now _ c.pair_count-count.ensures

pub slice_bounds-appended-end-2 : goal.slice_bounds-appended-end-2
slice_bounds-appended-end-2 c = cut_t c.args.qs.now c.args.ts.now _ c.pair_count-count.ensures

pub appended-requires : goal.appended-requires
appended-requires c =
    add_room _ _ _ c.args.qs.now c.args.ts.now _ c.requires (answer_of _ (rw (to_z-of_z c.ranges.score) at c.in_ok-judge_next.ensures)) _ c.pair_count-count.ensures

pub returns : goal.returns
returns c =
    grows _ _ _ c.args.qs.now c.args.ts.now _ c.requires (answer_of _ (rw (to_z-of_z c.ranges.score) at c.in_ok-judge_next.ensures)) _ c.pair_count-count.ensures (rw (to_z-of_z c.ranges.score) at c.appended.ensures)
