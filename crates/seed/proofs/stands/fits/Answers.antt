use Rattle.std.proofs.Common.{sym, ◌∙◌}
use Rattle.seed.proofs.StandSteps.{fits_no_q, fits_no_t, fits_by}
use Rattle.seed.proofs.stands.fits.Goals as goal

pub returns-then-not-above : goal.returns-then-not-above
returns-then-not-above c = sym (fits_no_q _ _ _ _ _ c.last_pair-last.ensures (sym c.above.ensures ∙ c.if-not-above.true))

pub returns-then-not-above-2 : goal.returns-then-not-above-2
returns-then-not-above-2 c = sym (fits_no_t _ _ _ _ _ c.last_pair-last.ensures (sym c.above.ensures ∙ c.if-not-above.false) (sym c.above-2.ensures ∙ c.if-not-above-2.true))

pub returns : goal.returns
returns c = c.all_level.ensures ∙ sym (fits_by _ _ _ _ _ c.last_pair-last.ensures (sym c.above.ensures ∙ c.if-not-above.false) (sym c.above-2.ensures ∙ c.if-not-above-2.false))
