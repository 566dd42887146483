use Rattle.std.proofs.lemmas.Result.{err_from_is_err_and}
use Rattle.dealing.proofs.BothRead.{both_q, both_t, both_read_lem}
use Rattle.dealing.proofs.texts.read_both.Goals as goal

pub returns-in_err-tree_q : goal.returns-in_err-tree_q
returns-in_err-tree_q c =
    let p = err_from_is_err_and c.from_residual.result c.from_residual.ensures.1 in
    rw (p.1, p.2) (both_q _ _ c.read.ensures c.in_err-tree_q.was)

pub returns-in_err-tree_t : goal.returns-in_err-tree_t
returns-in_err-tree_t c =
    let p = err_from_is_err_and c.from_residual-in_err-tree_t.result c.from_residual-in_err-tree_t.ensures.1 in
    rw (p.1, p.2) (both_t _ _ c.read.ensures c.in_ok-tree_q.was c.read-2.ensures c.map_err.ensures.cases c.in_err-tree_t.was)

pub returns : goal.returns
returns c = both_read_lem _ _ c.read.ensures c.in_ok-tree_q.was c.read-2.ensures c.map_err.ensures.cases c.in_ok-tree_t.was
