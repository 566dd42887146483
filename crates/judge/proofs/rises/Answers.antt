use Rattle.std.proofs.Common.{rules, ltb}
use Rattle.std.proofs.lemmas.List.Sorted.{answers_always}
use Rattle.judge.proofs.Rising.{rises_answer}
use Rattle.judge.proofs.rises.Goals as goal

pub returns : goal.returns
returns c = rises_answer c.args.xs.now c.is_sorted_by.result (c.is_sorted_by.ensures.cases ltb (answers_always _ _ _ (λ f a r f' k. search rules)))
