use Rattle.std.proofs.Common.{refl}
use mathlib.Core.List.{flatten}
use Rattle.plain.specs.inner.Writing.{pair_part}
use Rattle.plain.proofs.Writing.{chain_more, chain_all}
use Rattle.plain.proofs.records.put_chain.Goals as goal

pub loop-j-init : goal.loop-j-init
unfolding pair_part flatten
loop-j-init c = refl

pub loop-j-preserved : goal.loop-j-preserved
loop-j-preserved c = chain_more c.args.k _ _ c.requires.as_many _ _ c.loop-j.j _ c.loop-j-test.true c.next_of.ensures c.loop-j.invariant c.put_pair.ensures

pub returns-clause-wrote : goal.returns-clause-wrote
returns-clause-wrote c = chain_all c.args.k _ _ c.requires.as_many _ _ c.loop-j.j c.loop-j-test.false c.loop-j.invariant
