-- Lines put to zeros stand there with zeros behind them.
use mathlib.Core.Path.{◌≡◌, refl, ap, ap₂, ◌∙◌}
use mathlib.Core.List.{List}
use Prim.Native.Nat.{ℕ, ◌-◌, ◌≤◌}
use native.Mathlib.Omega.{arith}
use lib.ListN.{length, take, replicate}
use lib.Seq.{take_at}
use Rattle.write.specs.Puts.{Puts}
use Rattle.write.proofs.Zeros.{zeros_bytes, zeros_length}
use Rattle.lines.specs.Lines.{lines_room, printed}
use Rattle.lines.specs.declared.Lines.{Lines}

pub puts_printed : {line after : List ℕ} {n : ℕ} → length line ≤ lines_room → Puts line 0 (replicate lines_room 0) after n → record { bytes = after; length = n } ≡ printed line
unfolding printed
puts_printed {line} fits put =
    ap₂ (λ (b : List ℕ) (m : ℕ). record { bytes = b; length = m }) (zeros_bytes lines_room line fits put) (zeros_length lines_room line fits put)

-- Lines that are short enough, read back from their array.
module _ (line : List ℕ) {lines : Lines} (is : lines ≡ printed line) where
  pub printed_fits : length line ≤ lines_room → lines.length ≤ lines_room
  unfolding printed
  printed_fits few = omega (arith, ap (λ (x : Lines). x.length) is)

  pub printed_bytes : take lines.length lines.bytes ≡ line
  unfolding printed
  printed_bytes = ap (λ (x : Lines). take x.length x.bytes) is ∙ take_at line (replicate (lines_room - length line) 0) (length line) refl
