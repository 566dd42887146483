-- The three parts are Q, T and the deck.
use Rattle.std.proofs.Common.{ap, ◌∙◌}
use Rattle.report.specs.Input.{ahead, behind}
use Rattle.report.proofs.Reports.{opens_input}
use Rattle.report.proofs.opened_on.Goals as goal

pub returns : goal.returns
returns c =
    let rest = c.cut.ensures.back ∙ ap behind c.read_bytes.ensures in
    opens_input c.args.input.now (c.cut.ensures.front ∙ ap ahead c.read_bytes.ensures) (c.cut-2.ensures.front ∙ ap ahead rest) (c.cut-2.ensures.back ∙ ap behind rest) c.open_deck.ensures
