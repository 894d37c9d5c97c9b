use Rattle.tile_board.proofs.StateLemmas.{complete_is}
use Rattle.report_check.proofs.replay.Replay.is_complete.Goals as goal

pub returns : goal.returns
returns c H is = complete_is c.args.session.now H _ is.legal is.past.cursors c.all_ended.result (rw (c.deref.ensures.value, c.deref-2.ensures.value) at c.all_ended.ensures)
