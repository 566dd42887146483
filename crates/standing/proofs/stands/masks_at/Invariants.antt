-- `standing::stands::masks_at`: the highest is looked at, and taken off with what it tells of.
use Rattle.std.proofs.Common.{◌^◌, ◌<◌}
use Rattle.seed.specs.AreaList as stands
use Rattle.seed.specs.Pairs.{pairs_of}
use Rattle.standing.specs.inner.Stands.{alone}
use Rattle.standing.proofs.Knowing.{Known}
use Rattle.standing.proofs.stands.masks_at.Given as goal

abbrev pub invariant-loop-rest : goal.invariant-loop-rest
invariant-loop-rest l = (l.masks.left < 2 ^ 64) × (l.masks.under < 2 ^ 64) × (l.rest < 2 ^ 64) × Known (λ k. stands.left l.lq l.lt (alone l.rq l.rt k) (pairs_of l.uq l.ut)) (λ k. stands.under l.lq l.lt (alone l.rq l.rt k) (pairs_of l.uq l.ut)) l.y l.rest l.masks.left l.masks.under

abbrev pub decreases-loop-rest : goal.decreases-loop-rest
decreases-loop-rest l = l.rest
