use Rattle.std.proofs.Common.{sym, arith}
use Rattle.seed.proofs.PairLists.{count_most, last_pair_at}
use Rattle.seed.proofs.last_pair.Goals as goal

pub bounds-qs-n : goal.bounds-qs-n
bounds-qs-n c = omega (arith, count_most c.args.qs.now c.args.ts.now)

pub bounds-ts-n : goal.bounds-ts-n
bounds-ts-n c = omega (arith, count_most c.args.qs.now c.args.ts.now)

pub returns : goal.returns
returns c = rw c.pair_count-n.ensures (sym (last_pair_at _ _ (omega arith)))
