-- A refusal of the best chain is handed on.
use Rattle.std.proofs.lemmas.Result.{err_from_is_err_and}
use Rattle.report.proofs.Reports.{chain_printed, chain_refused}
use Rattle.report.proofs.chain_lines.Goals as goal

pub returns-in_err-best : goal.returns-in_err-best
returns-in_err-best c = let p = err_from_is_err_and c.from_residual.result c.from_residual.ensures.1 in rw (p.1, p.2) (chain_refused c.best_chain.ensures c.in_err-best.was)

pub returns : goal.returns
returns c = chain_printed c.best_chain.ensures c.in_ok-best.was c.result.ensures
