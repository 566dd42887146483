use Rattle.chain.proofs.Calls.{opened_state}
use Rattle.chain.proofs.changing.session_on.Goals as goal

pub returns-clause-state : goal.returns-clause-state
returns-clause-state c = opened_state c.args.q c.args.t c.args.table
