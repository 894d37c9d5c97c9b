use Rattle.tile_board.proofs.LawLemmas.{held_are_good_at_stamp}
use Rattle.tile_board.proofs.laws.held_are_good_at_stamp.Goals as goal

pub returns : goal.returns
returns c = held_are_good_at_stamp
