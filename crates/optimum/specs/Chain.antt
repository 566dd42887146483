-- Chains, totals, the tie rule and the best chain. A set of seed numbers is a test of numbers; numbers count from 0 here.
use Rattle.std.specs.Prelude.{◌≡◌, Bool, not, cond, ◌⊎◌, ℕ, zero, suc, ◌<◌, ℤ, pos, ◌+ℤ◌, T, ◌≤ℤ◌}

-- The seeds to choose from: how many numbers were given out, which of them are present, their scores, and which two are chainable.
pub record Seeds : Type 1 where
  pub count : ℕ
  pub present : ℕ → Bool
  pub score : ℕ → ℤ
  pub Chainable : ℕ → ℕ → Type 0

-- A chain is a set of present seeds, any two chainable.
pub record Chain (S : Seeds) (f : ℕ → Bool) : Type 0 where
  pub given : (i : ℕ) → T (f i) → i < S.count
  pub present : (i : ℕ) → T (f i) → T (S.present i)
  pub chainable : (i j : ℕ) → T (f i) → T (f j) → (i ≡ j → ⊥) → S.Chainable i j

-- A total is the sum of scores: of the numbers below n in the set f, and of all given out.
unfoldable pub total_of : (ℕ → ℤ) → (ℕ → Bool) → ℕ → ℤ
total_of score f zero = pos 0
total_of score f (suc n) = cond (f n) (score n +ℤ total_of score f n) (total_of score f n)

abbrev pub total : Seeds → (ℕ → Bool) → ℤ
total S f = total_of S.score f S.count

-- The tie rule: look at the highest number that is in just one of f and g; f, the one without it, wins.
pub record Wins (f g : ℕ → Bool) : Type 0 where
  pub highest : ℕ
  pub without : T (not (f highest))
  pub other_has : T (g highest)
  pub above : (i : ℕ) → highest < i → f i ≡ g i

-- The best chain has the greatest total, and it wins over every other chain with that total.
pub record IsBest (S : Seeds) (f : ℕ → Bool) : Type 0 where
  pub chain : Chain S f
  pub greatest : (g : ℕ → Bool) → Chain S g → total S g ≤ℤ total S f
  pub tie : (g : ℕ → Bool) → Chain S g → total S g ≡ total S f → ((i : ℕ) → f i ≡ g i) ⊎ Wins f g
