use Rattle.std.proofs.Common.{refl}
use Rattle.table.proofs.Tables.{rows_none}
use Rattle.dealing.proofs.Dealing.{kept_none}
use Rattle.chain.proofs.Openings.{single_is}
use Rattle.chain.proofs.RefusedOpeningFromRefusal.from.Goals as goal

pub session_on-requires : goal.session_on-requires
session_on-requires c = rw (c.single_tree-tree.ensures, c.empty.ensures) (kept_none _ _ single_is single_is)

pub returns : goal.returns
returns c =
    record {
      same = refl;
      leaves = rw (c.session_on.ensures.state, c.single_tree-tree.ensures, c.empty.ensures, rows_none);
      sound = c.session_on.ensures.sound;
    }
