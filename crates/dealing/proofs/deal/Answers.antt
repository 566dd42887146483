use Rattle.std.proofs.Common.{sym}
use Rattle.std.proofs.lemmas.Result.{err_from_is_err_and}
use Rattle.dealing.proofs.Dealing.{deals_texts, deals_deck, deals_accepted}
use Rattle.dealing.proofs.deal.Goals as goal

pub returns-in_err-trees : goal.returns-in_err-trees
returns-in_err-trees c =
    let p = err_from_is_err_and c.from_residual.result c.from_residual.ensures.1 in
    rw (p.1, p.2) (deals_texts _ _ _ (sym c.in_err-trees.ensures))

pub returns-in_err-table : goal.returns-in_err-table
returns-in_err-table c =
    let p = err_from_is_err_and c.from_residual-in_err-table.result c.from_residual-in_err-table.ensures.1 in
    rw (p.1, p.2) (deals_deck _ _ _ (sym c.in_ok-trees.ensures) c.in_err-table.ensures)

pub returns : goal.returns
returns c = deals_accepted _ _ _ (sym c.in_ok-trees.ensures) c.in_ok-table.ensures
