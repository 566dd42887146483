-- The best key by trying all chains.
use Rattle.std.specs.Prelude.{Bool, cond, ◌&&◌, ℕ, zero, suc}
use Rattle.optimum.specs.Key.{Key, empty, ◌⊕◌, better}

-- The best key of a chain of the items below n that pass p, each with its worth; chainable is asked with the lower item first. The last item
-- is left out, or taken with the best of those that are chainable with it.
unfoldable pub best : (ℕ → ℕ → Bool) → (ℕ → Key) → (ℕ → Bool) → ℕ → Key
best chainable worth p zero = empty
best chainable worth p (suc n) = cond (p n) (better (best chainable worth p n) (worth n ⊕ best chainable worth (λ x. p x && chainable x n) n)) (best chainable worth p n)
