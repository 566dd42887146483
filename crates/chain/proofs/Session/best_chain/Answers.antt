use Rattle.chain.specs.Handed.{session_fields}
use Rattle.chain.proofs.Looks.{lent_kept, chains}
use Rattle.chain.proofs.Session.best_chain.Goals as goal

pub best_chain-requires : goal.best_chain-requires
best_chain-requires c = lent_kept (session_fields c.self.inside) c.self.invariant

pub returns : goal.returns
returns c =
    rw (← c.self.view_is) (chains (session_fields c.self.inside) c.self.invariant _ _ _ c.best_chain.ensures)
