use Rattle.tile_board.proofs.board.Board.surface.Goals as goal

pub build-requires-clause-regions : goal.build-requires-clause-regions
build-requires-clause-regions c =
    let regions = rw c.deref.ensures at c.in_ok-regions.ensures in
    rw c.in_ok-gathered.ensures.gathered.session at regions
