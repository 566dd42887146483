-- One law for each way out.
use Rattle.std.proofs.Common.{sym, ◌∙◌, rules}
use Rattle.tree.proofs.Written.{written_refused, written_known, written_stays, written_other, written_read}
use Rattle.tree.proofs.read_written.Goals as goal

pub returns-then-not-in_dot_bracket : goal.returns-then-not-in_dot_bracket
returns-then-not-in_dot_bracket c = c.refused.ensures ∙ written_refused c.args.text.now _ c.requires c.dot_bracket-form.ensures (sym c.if-not-in_dot_bracket.ensures) _ c.first_refused.ensures

pub read_known-requires : goal.read_known-requires
read_known-requires c = written_known c.args.text.now _ c.requires c.dot_bracket-form.ensures (sym c.if-not-in_dot_bracket.ensures)

pub returns-in_err-tree : goal.returns-in_err-tree
returns-in_err-tree c =
    let e = written_stays c.args.text.now _ c.requires c.dot_bracket-form.ensures _ c.read_known.ensures c.in_err-tree.field-0.0 c.in_err-tree.was in
    search rules

pub returns-then-other-text : goal.returns-then-other-text
returns-then-other-text c =
    c.refused-then-other-text.ensures
    ∙ written_other c.args.text.now _ c.requires c.dot_bracket-form.ensures _ c.read_known.ensures _ c.first_other_kind-other.ensures _ c.in_ok-tree.was c.if-other-text.true

pub returns : goal.returns
returns c = written_read c.args.text.now _ c.requires c.dot_bracket-form.ensures _ c.read_known.ensures _ c.first_other_kind-other.ensures _ c.in_ok-tree.was c.if-other-text.false
