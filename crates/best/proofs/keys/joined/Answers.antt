-- `best::keys::joined`.
use Rattle.std.proofs.Common.{sym}
use Rattle.optimum.proofs.StoredKeys.{stored_add}
use Rattle.best.proofs.keys.joined.Goals as goal

pub returns : goal.returns
returns c = sym (stored_add _ _ _ _)
