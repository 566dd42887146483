use Rattle.std.proofs.Common.{ℕ, ◌∙◌, rules, tests}
use Rattle.std.proofs.lemmas.Iterator.{YieldsList-from_slice, YieldsList-from_zip}
use Rattle.std.proofs.lemmas.Iterator.Search.{all_from_yields_List}
use Rattle.seed.specs.Pairs.{pair_of}
use Rattle.seed.specs.AreaList.{level}
use Rattle.seed.proofs.PairLists.{every_zip}
use Rattle.seed.proofs.stands.all_level.Goals as goal

pub returns : goal.returns
returns c =
    all_from_yields_List (λ (p : ℕ × ℕ). level c.args.lq.now c.args.lt.now c.args.i c.args.j (pair_of p.0 p.1)) c.all.new.self _ _ c.all.ensures.ran (YieldsList-from_zip (YieldsList-from_slice c.args.qs.now cc) (YieldsList-from_slice c.args.ts.now cc)) (λ x b q k. search (rules, tests))
    ∙ every_zip (level c.args.lq.now c.args.lt.now c.args.i c.args.j) c.args.qs.now c.args.ts.now
