-- Bytes put to the start of zeros stand there with zeros behind them.
use mathlib.Core.Path.{◌≡◌, ap, ◌∙◌}
use mathlib.Core.List.{List, ◌++◌}
use Prim.Native.Nat.{ℕ, zero, suc, ◌-◌, ◌≤◌}
use native.Mathlib.Nat.{zero-add}
use native.Mathlib.Numerals.{unary_clauses}
use native.Mathlib.Omega.{arith}
use lib.ListN.{length, drop, replicate}
use Rattle.write.specs.Puts.{Puts, Room}
use Rattle.write.proofs.Puts.{puts_output, puts_place}
use Rattle.write.proofs.Sets.{sets_first}

drop_zeros : (n k : ℕ) → k ≤ n → drop {A = ℕ} k (replicate n 0) ≡ replicate (n - k) 0
drop_zeros n zero h = simp unary_clauses
drop_zeros zero (suc k) h = absurd (omega arith)
drop_zeros (suc n) (suc k) h = simp unary_clauses (drop_zeros n k (omega arith))

length_zeros : (n : ℕ) → length {A = ℕ} (replicate n 0) ≡ n
length_zeros zero = omega arith
length_zeros (suc n) = ap suc (length_zeros n)

module _ (n : ℕ) (bytes : List ℕ) (fits : length bytes ≤ n) where
  pub zeros_room : Room bytes 0 (replicate n 0)
  zeros_room = record { fits = omega (arith, length_zeros n) }

  module _ {after : List ℕ} {next : ℕ} (put : Puts bytes 0 (replicate n 0) after next) where
    pub zeros_bytes : after ≡ bytes ++ replicate (n - length bytes) 0
    zeros_bytes =
        puts_output zeros_room put
        ∙ sets_first (replicate n 0) bytes (omega (arith, length_zeros n))
        ∙ ap (λ (l : List ℕ). bytes ++ l) (drop_zeros n (length bytes) fits)

    pub zeros_length : next ≡ length bytes
    zeros_length = puts_place zeros_room put ∙ zero-add (length bytes)
