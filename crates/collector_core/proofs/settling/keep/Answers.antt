use Rattle.tile_board.proofs.EarlierLemmas.{good_now}
use Rattle.collector_core.proofs.settling.keep.Goals as goal

pub keep_solved-requires : goal.keep_solved-requires
keep_solved-requires c = record { good = good_now c.args.board.now c.args.solved c.requires.may.0 c.requires.good }
