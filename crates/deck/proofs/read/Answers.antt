use Rattle.std.proofs.Common.{sym, ◌∙◌}
use Rattle.deck.proofs.Grounds.{layout_of, reading_bad}
use Rattle.deck.proofs.Accepted.{reads_refused}
use Rattle.deck.proofs.read.Goals as goal

pub returns-then-bad_layout : goal.returns-then-bad_layout
returns-then-bad_layout c = reads_refused _ (reading_bad _ (sym c.bad_layout.ensures ∙ c.if-bad_layout.true)) c.at.ensures

pub walk-requires : goal.walk-requires
walk-requires c = layout_of _ (sym c.bad_layout.ensures ∙ c.if-bad_layout.false)
