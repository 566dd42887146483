-- Seeds that differ in one score or in one presence, for how far one call can move the total. Numbers count from 0 here.
use Rattle.std.specs.Prelude.{Bool, cond, ℕ, ℤ, eqb}
use Rattle.optimum.specs.Chain.{Seeds}

-- The same seeds with another score for number k.
abbrev pub seeds_with_score : Seeds → ℕ → ℤ → Seeds
seeds_with_score S k z = record { count = S.count; present = S.present; score = λ i. cond (eqb k i) z (S.score i); Chainable = S.Chainable }

-- The same seeds with another presence for number k.
abbrev pub seeds_with_presence : Seeds → ℕ → Bool → Seeds
seeds_with_presence S k b = record { count = S.count; present = λ i. cond (eqb k i) b (S.present i); score = S.score; Chainable = S.Chainable }
