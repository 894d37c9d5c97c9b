use Rattle.tile_board.proofs.LawLemmas.{every_history_is_legal}
use Rattle.tile_board.proofs.laws.every_history_is_legal.Goals as goal

pub returns : goal.returns
returns c = every_history_is_legal
