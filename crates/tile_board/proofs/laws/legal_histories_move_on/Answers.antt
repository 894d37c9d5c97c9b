use Rattle.tile_board.proofs.LawLemmas.{legal_histories_move_on}
use Rattle.tile_board.proofs.laws.legal_histories_move_on.Goals as goal

pub returns : goal.returns
returns c = legal_histories_move_on
