use Rattle.std.proofs.lemmas.Result.{IfOk-weaker}
use Rattle.tile_board.proofs.lacking.LackingTiles.next_tiles.Goals as goal

pub returns-clause-tiles : goal.returns-clause-tiles
returns-clause-tiles c = rw (← c.self.view_is) (IfOk-weaker c.tiles_of_first.result _ _ (λ tiles are lacks. are lacks c.self.inside.claims.items) c.tiles_of_first.ensures.tiles)
