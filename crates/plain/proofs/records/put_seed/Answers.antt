use mir.Facts.{to_z-of_z}
use Rattle.plain.proofs.Writing.{seed_put}
use Rattle.plain.proofs.records.put_seed.Goals as goal

pub returns : goal.returns
returns c = seed_put _ _ _ _ (rw (to_z-of_z c.ranges.score) at c.put_score.ensures) c.put_number.ensures
