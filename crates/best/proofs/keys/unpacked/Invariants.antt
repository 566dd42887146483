-- `best::keys::unpacked`: the places passed say whether the mask has them.
use Rattle.std.proofs.Common.{◌≡◌, ℕ, ◌<◌, false, length, get_or}
use Rattle.optimum.specs.Key.{in_mask}
use Rattle.best.proofs.keys.unpacked.Given as goal

abbrev pub invariant-loop-i : goal.invariant-loop-i
invariant-loop-i l = (length l.chain ≡ 64) × ((j : ℕ) → j < l.i → get_or l.chain j false ≡ in_mask l.mask j)
