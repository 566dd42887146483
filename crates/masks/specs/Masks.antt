-- What is asked of a mask: its highest number, and what is left of it without another mask.
use Rattle.std.specs.Prelude.{◌≡◌, true, false, not, ◌&&◌, ◌≢◌, ℕ, ◌<◌}
use Rattle.optimum.specs.Key.{mask_of, in_mask}

-- The highest number of a mask: the mask has it and none above it. Of the empty mask it is 0.
pub record Highest (mask k : ℕ) : Type 0 where
  pub few : k < 64
  pub has : mask ≢ 0 → in_mask mask k ≡ true
  pub none : (j : ℕ) → k < j → in_mask mask j ≡ false
  pub empty : mask ≡ 0 → k ≡ 0

-- A mask without the numbers of another.
unfoldable pub minus : ℕ → ℕ → ℕ
minus mask other = mask_of (λ j. in_mask mask j && not (in_mask other j)) 64
