use Rattle.std.proofs.Common.{◌≡◌}
use Rattle.plain.specs.inner.Writing.{size_of}
use Rattle.plain.proofs.Present.{present_below}
use Rattle.plain.proofs.size.size_of.Given as goal

-- The present seeds passed are counted.
abbrev pub invariant-loop-i : goal.invariant-loop-i
invariant-loop-i l = l.size ≡ size_of (present_below l.fn.table l.i)
