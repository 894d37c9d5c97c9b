use Rattle.std.proofs.Common.{◌<◌, arith}
use Rattle.raster_model.specs.Tiles.{tile_at, tiles_of}
use Rattle.raster_model.proofs.TileLemmas.{tiles_are_numbered}
use Rattle.surface_snapshots.specs.Views.{parts_of}
use Rattle.solver_tests.proofs.snapshot_rows.surface.Goals as goal

pub faces-faces-requires : goal.faces-faces-requires
faces-faces-requires g c =
    let g = (parts_of c.args.snapshot.now).session.scene.tiling in
    let first : tile_at g 0 0 < tiles_of g = tiles_are_numbered g 0 0 (omega (arith, g.wide)) (omega (arith, g.high)) in
    omega (arith, first)
