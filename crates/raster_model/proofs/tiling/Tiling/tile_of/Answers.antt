use Rattle.raster_model.proofs.TileLemmas.{tiles_are_numbered}
use Rattle.raster_model.proofs.tiling.Tiling.tile_of.Goals as goal

pub returns-clause-exists : goal.returns-clause-exists
returns-clause-exists c = rw c.columns.ensures (tiles_are_numbered c.args.self.now c.args.x c.args.y c.requires.across c.requires.along)
