use Rattle.std.proofs.Common.{sym, ◌∙◌, arith}
use Rattle.deck.specs.Deck.{seed_count}
use Rattle.deck.proofs.Records.{seeds_length, first_inside, first_outside}
use Rattle.deck.proofs.walk.first_of.Goals as goal

-- The seed record is one of the deck's.
pub number-requires : goal.number-requires
unfolding seed_count
number-requires c = omega (arith, c.if-i-seeds.true, c.requires.exact)

pub returns-then-i-seeds : goal.returns-then-i-seeds
unfolding seed_count
returns-then-i-seeds c = c.number.ensures ∙ sym (first_inside _ _ c.if-i-seeds.true)

pub returns : goal.returns
unfolding seed_count
returns c = sym (first_outside _ _ (rw seeds_length c.if-i-seeds.false))
