-- What writing answers and leaves, test by test.
use mathlib.Core.Path.{◌≡◌}
use mathlib.Core.Bool.{true, false}
use mathlib.Core.List.{List}
use Prim.Native.Nat.{ℕ, ◌≤◌, ◌<◌}
use native.Mathlib.Omega.{arith}
use lib.ListN.{length}
use lib.IntN.{ℤ}
use Rattle.std.specs.Prelude.{Ok, Err}
use Rattle.answer.specs.Refusal.{refusal_at}
use Rattle.answer.specs.declared.Place.TheVariants.{Nothing}
use Rattle.answer.specs.declared.Ground.TheVariants.{ScoreRange, OutputShort}
use Rattle.write.specs.Puts.{Puts}
use Rattle.write.proofs.Puts.{puts_output}
use Rattle.write.proofs.Wrote.{wrote_none, wrote_all}
use Rattle.decimal.specs.Score.{number_text, beyond, WritesNumber}

module _ (z : ℤ) (out : List ℕ) where
  pub writes_beyond : beyond z ≡ true → WritesNumber z out out (Err (refusal_at ScoreRange Nothing))
  writes_beyond e = record { answers = rw e; leaves = rw e }

  module _ (within : beyond z ≡ false) where
    pub writes_short : length out < length (number_text z) → WritesNumber z out out (Err (refusal_at OutputShort Nothing))
    writes_short h =
        let none = wrote_none (number_text z) out h in
        record { answers = rw within none.answers; leaves = rw within none.leaves }

    pub writes_all : {after : List ℕ} {n next : ℕ} → length (number_text z) ≤ length out → n ≡ length (number_text z) → Puts (number_text z) 0 out after next → WritesNumber z out after (Ok n)
    writes_all {after} {n} h e put =
        let all = wrote_all (number_text z) out after n e h (puts_output (record { fits = omega arith }) put) in
        record { answers = rw within all.answers; leaves = rw within all.leaves }
