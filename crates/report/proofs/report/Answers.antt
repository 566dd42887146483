-- Each of the three answers.
use Rattle.std.proofs.Common.{refl, sym, ◌∙◌}
use Rattle.answer.specs.Answer.{Refused}
use Rattle.answer.proofs.Denied.{denies}
use Rattle.report.proofs.Reports.{reports_short, reports_chain, reports_refusal}
use Rattle.report.proofs.report.Goals as goal

pub returns-then-scratch_short : goal.returns-then-scratch_short
returns-then-scratch_short c = rw c.at.ensures (reports_short _ _ (sym c.scratch_short.ensures ∙ c.if-scratch_short.true))

pub returns-in-Ok : goal.returns-in-Ok
returns-in-Ok c = reports_chain _ _ (sym c.scratch_short.ensures ∙ c.if-scratch_short.false) c.in-Ok.ensures refl c.chain_lines.ensures

pub returns-in-Err : goal.returns-in-Err
returns-in-Err c = reports_refusal _ _ (sym c.scratch_short.ensures ∙ c.if-scratch_short.false) c.in-Err.ensures (denies {x = Refused _ _} refl) refl c.refusal.ensures refl
