-- The line feed is passed over.
use Rattle.std.proofs.Common.{sym, arith}
use Rattle.report.proofs.Parts.{feed_within, feed_ahead, feed_behind, none_ahead, none_behind}
use Rattle.report.proofs.input.cut.Goals as goal

pub returns-in-Some : goal.returns-in-Some
returns-in-Some c = record { front = feed_ahead _ (sym c.in-Some.ensures); back = feed_behind _ (sym c.in-Some.ensures) }

pub returns-in-None : goal.returns-in-None
returns-in-None c = record { front = none_ahead _ (sym c.in-None.ensures); back = none_behind _ (sym c.in-None.ensures) }
