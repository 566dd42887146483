use Rattle.std.proofs.Common.{length}
use Rattle.seed.specs.Tests.{alike_to}
use Rattle.seed.specs.Pairs.{pairs_of}
use Rattle.seed.proofs.Scans.{Passed}
use Rattle.judge.specs.inner.Steps.{Rows}
use Rattle.judge.proofs.ancestry.alike.Given as goal

-- The pairs passed were alike, so the answer is that of the rest.
abbrev pub invariant-loop-place : goal.invariant-loop-place
invariant-loop-place l = Rows l.lq l.qs l.rows l.place × Passed (alike_to l.lq l.lt (pairs_of l.qs l.ts)) l.qs l.ts (length l.qs) l.place
