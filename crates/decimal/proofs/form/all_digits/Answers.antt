-- `form::all_digits`: every byte is told to be a digit.
use Rattle.std.proofs.Common.{◌∙◌, rules, tests}
use Rattle.std.proofs.lemmas.Iterator.{YieldsList-from_slice}
use Rattle.std.proofs.lemmas.Iterator.Search.{all_from_yields_List}
use Rattle.decimal.specs.Score.{is_digit}
use Rattle.decimal.proofs.Forms.{digits_listed}
use Rattle.decimal.proofs.form.all_digits.Goals as goal

pub returns : goal.returns
unfolding is_digit
returns c =
    all_from_yields_List is_digit _ _ _ c.all.ensures.ran (YieldsList-from_slice c.args.s.now cc) (λ x b q k. search (rules, tests))
    ∙ digits_listed c.args.s.now
