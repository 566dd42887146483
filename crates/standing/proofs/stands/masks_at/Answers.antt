-- `standing::stands::masks_at`: the highest is looked at, and taken off with what it tells of.
use Rattle.std.proofs.Common.{◌≤◌, [], ◌∷◌, ap, arith, rules}
use lib.Pow.{pow-lt}
use Rattle.seed.specs.declared.Pair.{Pair}
use Rattle.masks.proofs.Bits.{minus_small, minus_less, taken_off_with}
use Rattle.standing.proofs.Knowing.{known_start, known_with, known_left, known_under}
use Rattle.standing.proofs.Relating.{masks_are}
use Rattle.standing.proofs.stands.masks_at.Goals as goal

pub loop-rest-init : goal.loop-rest-init
loop-rest-init c = rw (c.bit-rest.ensures.one c.requires.place) (omega arith, omega arith, omega (arith, pow-lt c.requires.place), known_start _ _ _)

pub loop-rest-smaller : goal.loop-rest-smaller
loop-rest-smaller c =
    let top = c.highest-k.ensures in
    rw (c.without-rest.ensures, c.bit.ensures.one top.few) (minus_less _ _ _ c.loop-rest.invariant.2 top.few (top.has c.loop-rest-test.true) (taken_off_with _ _ _))

pub loop-rest-preserved : goal.loop-rest-preserved
loop-rest-preserved c =
    let there = c.highest-k.ensures.has c.loop-rest-test.true in (
      search rules,
      search rules,
      rw c.without-rest.ensures (minus_small _ _),
      known_with _ _ _ _ _ _ _ c.requires.composed c.loop-rest.invariant.3 (omega (arith, c.requires.place)) _ there _ _ c.stands_to-stand.ensures (ap (λ (s : Pair). s ∷ []) c.last_in.ensures) c.with_seed-masks.ensures (rw (c.bit.ensures.one c.highest-k.ensures.few) at c.without-rest.ensures),
    )

pub returns : goal.returns
returns c =
    let inv = c.loop-rest.invariant in
    let few : c.args.y ≤ 64 = omega (arith, c.requires.place) in
    masks_are _ _ _ _ _ (known_left inv.3 c.loop-rest-test.false few inv.0) (known_under inv.3 c.loop-rest-test.false few inv.1)
