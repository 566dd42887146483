-- `best::keys::clipped`.
use Rattle.best.proofs.Signs.{sum_back, clip_taken, clip_left}
use Rattle.best.proofs.keys.clipped.Goals as goal

pub returns-then-sum-gt0 : goal.returns-then-sum-gt0
returns-then-sum-gt0 c = clip_taken c.args.score _ c.args.under.total _ _ (sum_back _ _ c.ranges.score c.requires.total_few) c.if-sum-gt0.true

pub returns : goal.returns
returns c = clip_left c.args.score c.args.bit c.args.under.total c.args.under.mask _ (sum_back _ _ c.ranges.score c.requires.total_few) c.if-sum-gt0.false
