-- `form::hundredths_in`.
use Rattle.std.proofs.Common.{◌-◌, ◌∙◌, length, drop, arith, length-drop}
use Rattle.std.proofs.Math.Seq.{take_all}
use Rattle.decimal.specs.Score.{hundredths_in}
use Rattle.decimal.proofs.form.hundredths_in.Goals as goal

pub returns : goal.returns
unfolding hundredths_in
returns c =
    let s = c.args.unsigned.now in
    let from = c.saturating_sub-start.result in
    take_all (length s - from) (drop from s) (omega (arith, length-drop from s)) ∙ rw c.saturating_sub-start.ensures
