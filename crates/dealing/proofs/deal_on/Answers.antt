use Rattle.std.proofs.Common.{sym, ◌∙◌}
use Rattle.std.proofs.lemmas.Result.{err_from_is_err_and}
use Rattle.dealing.proofs.Dealing.{on_layout, on_seeds, on_accepted}
use Rattle.dealing.proofs.deal_on.Goals as goal

pub returns-in_err-table : goal.returns-in_err-table
returns-in_err-table c =
    let p = err_from_is_err_and c.from_residual.result c.from_residual.ensures.1 in
    rw (p.1, p.2) (on_layout _ _ _ c.in_err-table.ensures)

pub returns-in_err-judge_seeds : goal.returns-in_err-judge_seeds
returns-in_err-judge_seeds c =
    let p = err_from_is_err_and c.from_residual-in_err-judge_seeds.result c.from_residual-in_err-judge_seeds.ensures.1 in
    rw (p.1, p.2) (on_seeds _ _ _ c.in_ok-table.ensures (sym c.judge_seeds.ensures.answer ∙ c.in_err-judge_seeds.was))

pub returns : goal.returns
returns c = on_accepted _ _ _ c.in_ok-table.ensures c.judge_seeds.ensures.read_q c.judge_seeds.ensures.read_t (sym c.judge_seeds.ensures.answer ∙ c.in_ok-judge_seeds.was)
