use Rattle.std.proofs.Common.{◌≡◌, ℕ, ◌<◌, Bool, false, ◌||◌, List, get_or, eqb, ltb, refl, sym, ap, ◌∙◌, arith}
use Rattle.deck.specs.Deck.{seed_count, pair_count}
use Rattle.deck.specs.Grounds.{Layout}
use Rattle.table.specs.declared.Table.{Table}
use Rattle.deck.proofs.Accepted.{reads_refused}
use Rattle.deck.proofs.Walking.{Walking, Turn, starts, names, turn, stops_bad, stops_twice, goes_on, ends_seed, ends_some, gathers}
use Rattle.deck.proofs.walk.walk.Goals as goal

-- The test of the index.
bad : {b x : Bool} (k total all : ℕ) → total ≡ all → b ≡ (eqb k 0 || ltb total k) → b ≡ x → (eqb k 0 || ltb all k) ≡ x
bad k total all e f g = ap (λ (n : ℕ). eqb k 0 || ltb n k) (sym e) ∙ sym f ∙ g

-- What is known where a record is reached.
here :
    (d : List ℕ) → Layout d → {marks : List Bool} {table : Table} {i k total : ℕ} {b : Bool}
    → Walking d marks table i k → total ≡ pair_count d → i < seed_count d → b ≡ (eqb k 0 || ltb total k) → b ≡ false → get_or marks k false ≡ false
    → Turn d table.pairs i k
here d h w e l f g m = turn d h w l (bad _ _ _ e f g) m

pub loop-i-init : goal.loop-i-init
unfolding seed_count pair_count
loop-i-init c = starts _ _ _ _ c.empty-filled.ensures refl c.requires.pairs c.first_of-k.ensures

pub returns-then-bad_index : goal.returns-then-bad_index
unfolding seed_count pair_count
returns-then-bad_index c =
    reads_refused _ (stops_bad _ c.requires c.loop-i.invariant c.loop-i-test.true (bad _ _ _ c.number-total.ensures c.bad_index.ensures c.if-bad_index.true)) c.at.ensures

pub bounds-marks-k : goal.bounds-marks-k
unfolding seed_count pair_count
bounds-marks-k c = omega (arith, (names c.loop-i.k (pair_count c.args.deck.now) (bad _ _ _ c.number-total.ensures c.bad_index.ensures c.if-bad_index.false)).1, c.requires.pairs)

pub returns-then-marks-k : goal.returns-then-marks-k
unfolding seed_count pair_count
returns-then-marks-k c =
    reads_refused _ (stops_twice _ c.requires c.loop-i.invariant c.loop-i-test.true (bad _ _ _ c.number-total.ensures c.bad_index.ensures c.if-bad_index.false) c.if-marks-k.true) c.at-then-marks-k.ensures

pub record_at-held-requires-clause-seed_count : goal.record_at-held-requires-clause-seed_count
unfolding seed_count
record_at-held-requires-clause-seed_count c = refl

pub record_at-held-requires-clause-index : goal.record_at-held-requires-clause-index
unfolding seed_count pair_count
record_at-held-requires-clause-index c =
    let t = here _ c.requires c.loop-i.invariant c.number-total.ensures c.loop-i-test.true c.bad_index.ensures c.if-bad_index.false c.if-marks-k.false in
    (t.low, t.high)

pub bounds-marks-k-in-loop-i : goal.bounds-marks-k-in-loop-i
unfolding seed_count pair_count
bounds-marks-k-in-loop-i c = omega (arith, here _ c.requires c.loop-i.invariant c.number-total.ensures c.loop-i-test.true c.bad_index.ensures c.if-bad_index.false c.if-marks-k.false)

pub bounds-filled-count : goal.bounds-filled-count
unfolding seed_count pair_count
bounds-filled-count c = omega (arith, here _ c.requires c.loop-i.invariant c.number-total.ensures c.loop-i-test.true c.bad_index.ensures c.if-bad_index.false c.if-marks-k.false)

pub bounds-filled-count-in-loop-i : goal.bounds-filled-count-in-loop-i
unfolding seed_count pair_count
bounds-filled-count-in-loop-i c = omega (arith, here _ c.requires c.loop-i.invariant c.number-total.ensures c.loop-i-test.true c.bad_index.ensures c.if-bad_index.false c.if-marks-k.false)

pub overflow_add-filled : goal.overflow_add-filled
unfolding seed_count pair_count
overflow_add-filled c = omega (arith, here _ c.requires c.loop-i.invariant c.number-total.ensures c.loop-i-test.true c.bad_index.ensures c.if-bad_index.false c.if-marks-k.false)

pub overflow_add-filled-then-k-eq0 : goal.overflow_add-filled-then-k-eq0
unfolding seed_count pair_count
overflow_add-filled-then-k-eq0 c = omega (arith, here _ c.requires c.loop-i.invariant c.number-total.ensures c.loop-i-test.true c.bad_index.ensures c.if-bad_index.false c.if-marks-k.false)

pub overflow_cast-filled : goal.overflow_cast-filled
unfolding seed_count pair_count
overflow_cast-filled c = omega (arith, here _ c.requires c.loop-i.invariant c.number-total.ensures c.loop-i-test.true c.bad_index.ensures c.if-bad_index.false c.if-marks-k.false)

pub bounds-filled-i : goal.bounds-filled-i
unfolding seed_count pair_count
bounds-filled-i c = omega (arith, here _ c.requires c.loop-i.invariant c.number-total.ensures c.loop-i-test.true c.bad_index.ensures c.if-bad_index.false c.if-marks-k.false)

pub loop-i-smaller-then-k-eq0 : goal.loop-i-smaller-then-k-eq0
unfolding seed_count pair_count
loop-i-smaller-then-k-eq0 c = omega (arith, here _ c.requires c.loop-i.invariant c.number-total.ensures c.loop-i-test.true c.bad_index.ensures c.if-bad_index.false c.if-marks-k.false)

pub loop-i-smaller : goal.loop-i-smaller
unfolding seed_count pair_count
loop-i-smaller c = omega (arith, here _ c.requires c.loop-i.invariant c.number-total.ensures c.loop-i-test.true c.bad_index.ensures c.if-bad_index.false c.if-marks-k.false)

pub loop-i-preserved-then-k-eq0 : goal.loop-i-preserved-then-k-eq0
unfolding seed_count pair_count
loop-i-preserved-then-k-eq0 c =
    let t = here _ c.requires c.loop-i.invariant c.number-total.ensures c.loop-i-test.true c.bad_index.ensures c.if-bad_index.false c.if-marks-k.false in
    ends_seed _ c.requires c.loop-i.invariant t.low t.high c.if-marks-k.false _ _ c.record_at-held.ensures c.if-k-eq0.true c.first_of-k-then-k-eq0.ensures c.loop-i-test.true

pub loop-i-preserved : goal.loop-i-preserved
unfolding seed_count pair_count
loop-i-preserved c =
    let t = here _ c.requires c.loop-i.invariant c.number-total.ensures c.loop-i-test.true c.bad_index.ensures c.if-bad_index.false c.if-marks-k.false in
    goes_on _ c.requires c.loop-i.invariant t.low t.high c.if-marks-k.false _ c.record_at-held.ensures c.if-k-eq0.false

pub returns-then-filled-total : goal.returns-then-filled-total
unfolding seed_count pair_count
returns-then-filled-total c =
    reads_refused _ (ends_some _ c.requires c.loop-i.invariant c.loop-i-test.false (rw c.number-total.ensures at c.if-filled-total.true)) c.at-then-filled-total.ensures

pub returns : goal.returns
unfolding seed_count pair_count
returns c = gathers _ c.requires c.loop-i.invariant c.loop-i-test.false (rw c.number-total.ensures at c.if-filled-total.false) c.scored.ensures
