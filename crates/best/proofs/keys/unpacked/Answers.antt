-- `best::keys::unpacked`.
use Rattle.std.proofs.Common.{false, arith}
use Rattle.seed.proofs.Tabs.{tab_of}
use Rattle.best.proofs.keys.unpacked.Goals as goal

pub returns : goal.returns
returns c = tab_of 64 _ c.loop-i.chain false c.loop-i.invariant.0 (λ j l. c.loop-i.invariant.1 j (omega arith))
