-- Every total that best chain answers is one that the writer takes.
use mathlib.Core.Path.{◌≡◌, ap, ◌∙◌}
use mathlib.Core.Bool.{false}
use mathlib.Core.List.{List}
use Prim.Native.Nat.{ℕ}
use native.Mathlib.Omega.{arith}
use lib.IntN.{pos}
use Rattle.std.specs.Prelude.{Result, Ok}
use Rattle.answer.specs.declared.Refusal.{Refusal}
use Rattle.write.specs.Wrote.{Wrote}
use Rattle.decimal.specs.Score.{number_text, beyond, WritesNumber}
use Rattle.decimal.proofs.Signs.{total_within}
use Rattle.best.specs.declared.Best.{Best}
use Rattle.chain.specs.View.{view}
use Rattle.chain.specs.Opening.{Outcome}
use Rattle.chain.specs.Looking.{Chains}
use Rattle.chain.specs.declared.Session.{Session}
use Rattle.demand.specs.History.{Event}
use Rattle.demand.specs.Reached.{Reached}
use Rattle.demand.proofs.Histories.{reached_sound}
use Rattle.chain.proofs.Looks.{chosen, best_most}

-- After any list of calls: what best chain answers as its total is written whole, or refused on 22 alone.
module _ {o : Outcome} {s : Session} {h : List Event} (w : Reached o s h) {before after : List ℕ} {best : Best} (c : Chains (view s) before after (Ok best)) where
  pub total_not_beyond : beyond (pos best.total) ≡ false
  total_not_beyond = total_within best.total (omega (arith, ap (λ (b : Best). b.total) (chosen c).answers, best_most s (reached_sound w)))

  pub total_written : {out out' : List ℕ} {r : Result ℕ Refusal} → WritesNumber (pos best.total) out out' r → Wrote (number_text (pos best.total)) out out' r
  total_written p = record { answers = p.answers ∙ rw total_not_beyond; leaves = p.leaves ∙ rw total_not_beyond }
