-- One law for each way out.
use Rattle.std.proofs.Common.{sym, ap, ◌∙◌}
use Rattle.tree.specs.Reading.{read_of}
use Rattle.tree.proofs.Lengths.{length_few}
use Rattle.tree.proofs.Texts.{read_length, read_fits}
use Rattle.tree.proofs.Written.{form_known, form_read}
use Rattle.tree.proofs.read.Goals as goal

pub returns-then-bad_length : goal.returns-then-bad_length
returns-then-bad_length c = c.refused.ensures ∙ sym (ap read_of (read_length _ (sym c.if-bad_length.ensures)))

pub read_known-requires : goal.read_known-requires
read_known-requires c = form_known c.args.text.now (sym c.if-in_dot_bracket.ensures) (length_few _ (sym c.if-bad_length.ensures))

pub returns-then-in_dot_bracket : goal.returns-then-in_dot_bracket
returns-then-in_dot_bracket c = c.read_known.ensures ∙ sym (ap read_of (read_fits _ (sym c.if-bad_length.ensures) ∙ form_read c.args.text.now (sym c.if-in_dot_bracket.ensures)))

pub read_written-requires : goal.read_written-requires
read_written-requires c = length_few _ (sym c.if-bad_length.ensures)

pub returns : goal.returns
returns c = c.read_written.ensures ∙ sym (ap read_of (read_fits _ (sym c.if-bad_length.ensures)))
