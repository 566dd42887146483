use Rattle.std.proofs.lemmas.Result.{err_from_is_err_and}
use Rattle.chain.proofs.Openings.{opens_refused, deck_refused, deck_accepted}
use Rattle.chain.proofs.open_deck.Goals as goal

pub returns-in_err-dealt : goal.returns-in_err-dealt
returns-in_err-dealt c =
    let p = err_from_is_err_and c.from_residual.result c.from_residual.ensures.1 in
    rw p.1 (opens_refused (deck_refused c.args.q.now c.args.t.now c.args.deck.now c.in_err-dealt.ensures) p.2)

pub returns : goal.returns
returns c = deck_accepted c.args.q.now c.args.t.now c.args.deck.now c.in_ok-dealt.ensures c.session_on.ensures.state c.session_on.ensures.sound
