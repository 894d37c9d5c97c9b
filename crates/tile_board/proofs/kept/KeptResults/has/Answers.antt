use Rattle.std.proofs.Common.{arith}
use Rattle.tile_board.proofs.SharedLemmas.{as_long, told}
use Rattle.tile_board.proofs.kept.KeptResults.has.Goals as goal

pub returns : goal.returns
returns c =
    let items = c.self.inside.results.items in
    let here = rw (← c.self.view_is) at c.requires in
    rw (← c.self.view_is) (told items c.args.tile c.index.result.now c.is_some.result (omega (arith, here, as_long items)) c.index.ensures c.is_some.ensures)
