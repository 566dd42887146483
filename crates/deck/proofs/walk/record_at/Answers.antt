use Rattle.deck.specs.Deck.{pair_record}
use Rattle.deck.proofs.Records.{record_at_lem}
use Rattle.deck.proofs.walk.record_at.Goals as goal

pub returns : goal.returns
unfolding pair_record
returns c =
    let k = c.requires.index in
    rw (record_at_lem c.args.deck.now c.args.k k.0 k.1, c.number.ensures, c.requires.seed_count)
