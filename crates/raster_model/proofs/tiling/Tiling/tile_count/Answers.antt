use Rattle.raster_model.proofs.TileLemmas.{few_tiles}
use Rattle.raster_model.proofs.tiling.Tiling.tile_count.Goals as goal

pub returns-clause-few : goal.returns-clause-few
returns-clause-few c = rw (c.rows.ensures, c.columns.ensures) (few_tiles c.args.self.now)
