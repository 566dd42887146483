use Rattle.std.proofs.Common.{◌+◌, sym, ap, ◌∙◌, arith, Err}
use borrow.Author.Tests.{eq-eqb, ne_eqb, le-leb, lt-leb, lt-ltb, le-ltb}
use mir.Facts.{to_z-of_z}
use Rattle.adding.specs.Adding.{limit_answer}
use Rattle.adding.proofs.limits.judge_limits.Goals as goal

pub returns-then-not-in_range : goal.returns-then-not-in_range
unfolding limit_answer
returns-then-not-in_range c = rw (sym (rw (to_z-of_z c.ranges.score) at c.in_range.ensures) ∙ c.if-not-in_range.true) (ap Err c.at.ensures)

pub returns-then-count-eq0 : goal.returns-then-count-eq0
unfolding limit_answer
returns-then-count-eq0 c = rw (sym (rw (to_z-of_z c.ranges.score) at c.in_range.ensures) ∙ c.if-not-in_range.false, eq-eqb _ 0 c.if-count-eq0.true) (ap Err c.at-then-count-eq0.ensures)

pub returns-then-seeds-ge64 : goal.returns-then-seeds-ge64
unfolding limit_answer
returns-then-seeds-ge64 c =
    rw (sym (rw (to_z-of_z c.ranges.score) at c.in_range.ensures) ∙ c.if-not-in_range.false, ne_eqb _ 0 c.if-count-eq0.false, le-leb 64 _ c.if-seeds-ge64.true) (ap Err c.at-then-seeds-ge64.ensures)

pub returns-then-pairs-count : goal.returns-then-pairs-count
unfolding limit_answer
returns-then-pairs-count c =
    rw (
      sym (rw (to_z-of_z c.ranges.score) at c.in_range.ensures) ∙ c.if-not-in_range.false,
      ne_eqb _ 0 c.if-count-eq0.false,
      lt-leb 64 _ c.if-seeds-ge64.false,
      lt-ltb 1024 (c.args.pairs + c.args.count) (omega (arith, c.if-pairs-count.true)),
    ) (ap Err c.at-then-pairs-count.ensures)

pub returns : goal.returns
unfolding limit_answer
returns c =
    rw (
      sym (rw (to_z-of_z c.ranges.score) at c.in_range.ensures) ∙ c.if-not-in_range.false,
      ne_eqb _ 0 c.if-count-eq0.false,
      lt-leb 64 _ c.if-seeds-ge64.false,
      le-ltb 1024 (c.args.pairs + c.args.count) (omega (arith, c.if-pairs-count.false)),
    )
