use Rattle.std.proofs.Common.{◌∙◌, ap}
use Rattle.std.proofs.lemmas.Result.{err_from_is_err_and}
use Rattle.table.proofs.Tables.{rows_none}
use Rattle.dealing.proofs.Dealing.{kept_none}
use Rattle.chain.specs.Opening.{Outcome}
use Rattle.chain.proofs.Openings.{opens_refused, texts_refused, texts_trees, texts_accepted}
use Rattle.chain.proofs.open.Goals as goal

pub returns-in_err-both : goal.returns-in_err-both
returns-in_err-both c =
    let p = err_from_is_err_and c.from_residual.result c.from_residual.ensures.1 in
    rw p.1 (opens_refused (texts_refused c.args.q.now c.args.t.now c.in_err-both.ensures) p.2)

pub session_on-requires : goal.session_on-requires
session_on-requires c =
    let trees = texts_trees c.args.q.now c.args.t.now c.in_ok-both.ensures in
    rw c.empty.ensures (kept_none _ _ trees.0 trees.1)

pub returns : goal.returns
returns c =
    let is = texts_accepted c.args.q.now c.args.t.now c.in_ok-both.ensures in
    record {
      answers = ap (λ (x : Outcome). x.answer) is;
      leaves = c.session_on.ensures.state ∙ rw (c.empty.ensures, rows_none) (ap (λ (x : Outcome). x.state) is);
      sound = c.session_on.ensures.sound;
    }
