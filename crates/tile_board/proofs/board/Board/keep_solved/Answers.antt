use Rattle.tile_board.proofs.EarlierLemmas.{was_good}
use Rattle.tile_board.proofs.board.Board.keep_solved.Goals as goal

pub keep_good-requires-clause-good : goal.keep_good-requires-clause-good
keep_good-requires-clause-good c = was_good c.args.self.now c.args.solved c.requires.good c.in_ok-may_keep.ensures.may.0
