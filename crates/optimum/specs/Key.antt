-- Keys: what is compared of two chains. The total comes first; the mask of the numbers stands for the tie rule.
use Rattle.std.specs.Prelude.{Bool, true, false, cond, ℕ, zero, suc, ◌+◌, ◌^◌, ◌/◌, ◌%◌, ℤ, pos, ◌+ℤ◌, leb, eqb}
use Rattle.std.specs.Int.Signed.{lt_z}

-- The total of a chain and the mask of its numbers.
pub record Key : Type 0 where
  pub total : ℤ
  pub mask : ℕ

-- The mask of a set of numbers below n: the sum of their powers of two.
unfoldable pub mask_of : (ℕ → Bool) → ℕ → ℕ
mask_of f zero = 0
mask_of f (suc n) = cond (f n) (2 ^ n + mask_of f n) (mask_of f n)

-- Whether a mask has a number.
unfoldable pub in_mask : ℕ → ℕ → Bool
in_mask m i = eqb (m / 2 ^ i % 2) 1

-- The key of the seed numbered i alone.
abbrev pub seed_key : (ℕ → ℤ) → ℕ → Key
seed_key score i = record { total = score i; mask = 2 ^ i }

-- The key of the empty chain.
unfoldable pub empty : Key
empty = record { total = pos 0; mask = 0 }

-- The key of two chains together that share no number.
infixl 60 ◌⊕◌
unfoldable pub ◌⊕◌ : Key → Key → Key
a ⊕ b = record { total = a.total +ℤ b.total; mask = a.mask + b.mask }

-- Whether a is no better than b: b has the greater total, or the same total and no greater a mask.
unfoldable pub no_better : Key → Key → Bool
no_better a b = cond (lt_z a.total b.total) true (cond (lt_z b.total a.total) false (leb b.mask a.mask))

-- The better of two keys.
unfoldable pub better : Key → Key → Key
better a b = cond (no_better a b) b a
