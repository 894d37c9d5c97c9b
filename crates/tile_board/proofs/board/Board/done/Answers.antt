use Rattle.std.proofs.Common.{◌∙◌}
use Rattle.tile_board.proofs.StateLemmas.{cursor_is}
use Rattle.tile_board.proofs.board.Board.done.Goals as goal

pub returns : goal.returns
returns c =
    let i = c.self.invariant in
    rw (← c.self.view_is) (rw c.deref.ensures.value at c.cursor_of.ensures ∙ cursor_is _ _ c.self.inside.cursors.items i.board.legal i.past.cursors c.args.analyst)
