-- `line::put_result`: the one line is put and then the other.
use Rattle.std.proofs.Common.{refl}
use Rattle.write.proofs.Puts.{room_first, room_last, puts_both}
use Rattle.lines.specs.Lines.{chain_line, result_lines}
use Rattle.lines.proofs.line.put_result.Goals as goal

pub put_score_line-behind_score-requires : goal.put_score_line-behind_score-requires
unfolding result_lines
put_score_line-behind_score-requires c = room_first c.requires (chain_line c.args.chain) refl

pub put_chain_line-requires : goal.put_chain_line-requires
unfolding result_lines
put_chain_line-requires c = room_last c.requires c.put_score_line-behind_score.ensures refl

pub returns : goal.returns
unfolding result_lines
returns c = puts_both c.requires c.put_score_line-behind_score.ensures refl c.put_chain_line.ensures
