-- The table by which the best key is worked out, for the contracts of the functions that fill it. Items are the positions below a number, and
-- a table is a key for each position.
use Rattle.std.specs.Prelude.{◌≡◌, Bool, cond, ◌&&◌, ◌||◌, ℕ, zero, suc, ◌^◌, ◌<◌, ◌≤◌, ℤ, pos, T, ◌≤ℤ◌}
use Rattle.optimum.specs.Key.{Key, empty, ◌⊕◌, better, seed_key}
use Rattle.optimum.specs.Best.{best}

-- Which item is left of which, which is under which, and the key of each alone.
pub record Items : Type 0 where
  pub left : ℕ → ℕ → Bool
  pub under : ℕ → ℕ → Bool
  pub worth : ℕ → Key

-- A lower item is chainable with a higher one if it is left of it or under it.
abbrev pub items_chainable : Items → ℕ → ℕ → Bool
items_chainable S x y = S.left x y || S.under x y

-- The best key of a chain of the items below n that pass p.
abbrev pub best_among : Items → (ℕ → Bool) → ℕ → Key
best_among S p n = best (items_chainable S) S.worth p n

-- How left and under compose among the items below n, and that left rises.
pub record Laws (S : Items) (n : ℕ) : Type 0 where
  pub left_left : (x y z : ℕ) → x < n → y < n → z < n → T (S.left x y) → T (S.left y z) → T (S.left x z)
  pub under_left : (x y z : ℕ) → x < n → y < n → z < n → T (S.under x y) → T (S.left y z) → T (S.left x z)
  pub left_under : (x y z : ℕ) → x < n → y < n → z < n → T (S.left x y) → T (S.under z y) → T (S.left x z)
  pub under_under : (x y z : ℕ) → x < n → y < n → z < n → T (S.under x y) → T (S.under y z) → T (S.under x z)
  pub left_rises : (x y : ℕ) → x < n → y < n → T (S.left x y) → x < y

-- The items below n are seeds with numbers below a limit, each its own, and the worth of an item is the key of its seed.
pub record Numbered (limit : ℕ) (score : ℕ → ℤ) (number : ℕ → ℕ) (worth : ℕ → Key) (n : ℕ) : Type 0 where
  pub within : (k : ℕ) → k < n → number k < limit
  pub distinct : (j k : ℕ) → j < k → k < n → number j ≡ number k → ⊥
  pub worths : (k : ℕ) → k < n → worth k ≡ seed_key score (number k)

-- There are at most 64 items and numbers, and no score is above 1,000,000.
pub record Limited (limit : ℕ) (score : ℕ → ℤ) (number : ℕ → ℕ) (worth : ℕ → Key) (n : ℕ) : Type 0 where
  pub numbered : Numbered limit score number worth n
  pub numbers : limit ≤ 64
  pub items : n ≤ 64
  pub scores : (k : ℕ) → k < n → score (number k) ≤ℤ pos 1000000

-- The key of an item with the best chain of the items under it.
unfoldable pub with_under : Items → ℕ → Key
with_under S y = S.worth y ⊕ best_among S (λ x. S.under x y) y

-- The best of d k over the k below n that pass p, and of the empty chain.
unfoldable pub max_below : (ℕ → Bool) → (ℕ → Key) → ℕ → Key
max_below p d zero = empty
max_below p d (suc n) = cond (p n) (better (max_below p d n) (d n)) (max_below p d n)

-- v has for each item below n its key with the best chain under it, or the empty chain's if that is better.
unfoldable pub KeysUnder : Items → (ℕ → Key) → ℕ → Type 0
KeysUnder S v n = (y : ℕ) → y < n → v y ≡ better empty (with_under S y)

-- d is a row over the items below n that pass p: the key of each in v, with the best of the row left of it.
unfoldable pub KeyRow : (ℕ → ℕ → Bool) → (ℕ → Bool) → (ℕ → Key) → (ℕ → Key) → ℕ → Type 0
KeyRow left p v d n = (k : ℕ) → k < n → T (p k) → d k ≡ v k ⊕ max_below (λ j. p j && left j k) d k

-- A key that is at least as good as the empty chain's, as it is stored: by two natural numbers.
abbrev pub stored : ℕ → ℕ → Key
stored t m = record { total = pos t; mask = m }

-- The two numbers of a stored key are in bounds.
pub record Small (t m : ℕ) : Type 0 where
  pub total : t ≤ 64000000
  pub mask : m < 2 ^ 64
