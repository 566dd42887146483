use Rattle.std.proofs.Common.{◌≡◌, ◌+◌, Err, get_or, pos, w32, refl, sym, ap, ◌∙◌, rules}
use Rattle.std.proofs.lemmas.Result.{err_from_is_err_and}
use mir.Val.{to_z, of_z}
use Rattle.answer.specs.declared.Refusal.{Refusal}
use Rattle.answer.specs.Answer.{Refused}
use Rattle.answer.specs.declared.Ground.TheVariants.{ScoreRange}
use Rattle.answer.specs.declared.Place.TheVariants.{Seed}
use Rattle.seed.specs.Pairs.{pairs_of}
use Rattle.judge.specs.Judge.{judge_of}
use Rattle.tree.proofs.Trees.{tree_nested}
use Rattle.dealing.proofs.Passing.{seeds_stop, seeds_next, seeds_end}
use Rattle.dealing.proofs.seeds.judge_seeds.Goals as goal

-- A score is read from its bits.
pub returns-then-not-in_range-clause-answer : goal.returns-then-not-in_range-clause-answer
returns-then-not-in_range-clause-answer c =
    let read : to_z w32 (of_z w32 (get_or c.args.table.scores c.loop-i.i (pos 0))) ≡ get_or c.args.table.scores c.loop-i.i (pos 0) = search rules in
    seeds_stop _ _ _ _ c.loop-i-test.true c.loop-i.invariant refl refl {a = Refused ScoreRange (Seed (c.loop-i.i + 1))} (rw (sym (rw read at c.in_range.ensures) ∙ c.if-not-in_range.true))
    (sym (ap (λ (r : Refusal). Err r) c.at.ensures))

pub judge_on-requires : goal.judge_on-requires
judge_on-requires c =
    (rw c.leaves-lq.ensures.leaves (tree_nested c.args.q c.leaves-lq.ensures.read), rw c.leaves-lt.ensures.leaves (tree_nested c.args.t c.leaves-lt.ensures.read))

pub returns-in_err-judge_on-clause-answer : goal.returns-in_err-judge_on-clause-answer
returns-in_err-judge_on-clause-answer c =
    let read : to_z w32 (of_z w32 (get_or c.args.table.scores c.loop-i.i (pos 0))) ≡ get_or c.args.table.scores c.loop-i.i (pos 0) = search rules in
    let p = err_from_is_err_and c.from_residual.result c.from_residual.ensures.1 in
    rw (p.1, p.2)
    (seeds_stop _ _ _ _ c.loop-i-test.true c.loop-i.invariant c.nodes_of-qs.ensures c.nodes_of-ts.ensures
    {a = judge_of c.args.q c.args.t (pairs_of c.nodes_of-qs.result.now c.nodes_of-ts.result.now) (c.loop-i.i + 1)}
    (rw (sym (rw read at c.in_range.ensures) ∙ c.if-not-in_range.false))
    (sym (rw (c.leaves-lt.ensures.leaves, c.leaves-lq.ensures.leaves, c.kinds_with_root-kt.ensures, c.kinds_with_root-kq.ensures) at c.judge_on.ensures) ∙ c.in_err-judge_on.was))

pub loop-i-preserved : goal.loop-i-preserved
loop-i-preserved c =
    let read : to_z w32 (of_z w32 (get_or c.args.table.scores c.loop-i.i (pos 0))) ≡ get_or c.args.table.scores c.loop-i.i (pos 0) = search rules in
    seeds_next _ _ _ _ c.loop-i-test.true c.loop-i.invariant c.nodes_of-qs.ensures c.nodes_of-ts.ensures
    {a = judge_of c.args.q c.args.t (pairs_of c.nodes_of-qs.result.now c.nodes_of-ts.result.now) (c.loop-i.i + 1)}
    (rw (sym (rw read at c.in_range.ensures) ∙ c.if-not-in_range.false))
    (sym (rw (c.leaves-lt.ensures.leaves, c.leaves-lq.ensures.leaves, c.kinds_with_root-kt.ensures, c.kinds_with_root-kq.ensures) at c.judge_on.ensures) ∙ c.in_ok-judge_on.was)

pub returns-clause-answer : goal.returns-clause-answer
returns-clause-answer c = seeds_end _ _ _ _ c.loop-i-test.false c.loop-i.invariant
