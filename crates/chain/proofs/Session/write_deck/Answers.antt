use Rattle.chain.specs.Handed.{session_fields}
use Rattle.chain.proofs.Looks.{writes}
use Rattle.chain.proofs.Session.write_deck.Goals as goal

pub returns : goal.returns
returns c =
    rw (← c.self.view_is) (writes (session_fields c.self.inside) _ _ _ c.write.ensures)
