use Rattle.std.proofs.Common.{◌∙◌}
use Rattle.area.proofs.Firsts.{first_or_all}
use Rattle.area.proofs.first_like.Goals as goal

pub returns : goal.returns
returns c = c.unwrap_or.ensures ∙ first_or_all _ _ c.first_meeting.ensures
