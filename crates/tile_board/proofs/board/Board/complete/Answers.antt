use Rattle.tile_board.proofs.StateLemmas.{complete_is}
use Rattle.tile_board.proofs.board.Board.complete.Goals as goal

pub returns : goal.returns
returns c =
    let i = c.self.invariant in
    let told = rw (c.deref-3.ensures.value, c.deref-2.ensures.value, c.deref.ensures) at c.all_ended.ensures in
    rw (← c.self.view_is) (complete_is _ _ c.self.inside.cursors.items i.board.legal i.past.cursors c.all_ended.result told)
