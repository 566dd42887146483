use Rattle.std.proofs.lemmas.Result.{err_from_is_err_and}
use mir.Facts.{to_z-of_z}
use Rattle.seed.specs.Pairs.{pairs_of}
use Rattle.adding.proofs.Results.{answer_of}
use Rattle.adding.proofs.Next.{next_limited, next_judged}
use Rattle.adding.proofs.judge_next.Goals as goal

pub returns-in_err-judge_limits : goal.returns-in_err-judge_limits
returns-in_err-judge_limits c =
    let p = err_from_is_err_and c.from_residual.result c.from_residual.ensures.1 in
    rw (p.1, p.2) (next_limited _ _ _ (pairs_of c.args.qs.now c.args.ts.now) _ c.requires c.pair_count.ensures (answer_of _ (rw (to_z-of_z c.ranges.score) at c.in_err-judge_limits.ensures)))

pub returns : goal.returns
returns c =
    next_judged _ _ _ (pairs_of c.args.qs.now c.args.ts.now) _ c.requires c.pair_count.ensures (answer_of _ (rw (to_z-of_z c.ranges.score) at c.in_ok-judge_limits.ensures)) c.judge.ensures
