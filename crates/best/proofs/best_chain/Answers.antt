-- `best::best_chain`: the seeds as they stand, and the table on the scratch.
use Rattle.std.proofs.Common.{◌∙◌, sym}
use Rattle.best.proofs.Answers.{best_refused, best_accepted, table_posed, table_key}
use Rattle.best.proofs.best_chain.Goals as goal

pub returns-then-scratch_short : goal.returns-then-scratch_short
returns-then-scratch_short c = rw c.at.ensures (best_refused _ _ _ _ (sym c.scratch_short.ensures ∙ c.if-scratch_short.true))

pub solve-key-requires-clause-posed : goal.solve-key-requires-clause-posed
solve-key-requires-clause-posed c = table_posed _ _ _ c.requires _ (c.stood-standing.ensures _ c.requires)

pub returns : goal.returns
returns c = best_accepted _ _ _ _ c.solve-key.new.scratch _ _ _ _ (sym c.scratch_short.ensures ∙ c.if-scratch_short.false) (c.solve-key.ensures ∙ table_key _ _ _ c.requires _ (c.stood-standing.ensures _ c.requires)) c.unpacked.ensures c.solve-key.auto.scratch (c.fill.ensures.after (λ y e. e))
