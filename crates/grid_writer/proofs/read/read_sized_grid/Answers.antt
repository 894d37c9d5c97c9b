use Rattle.grid_writer.proofs.SizeLemmas.{tiled_is_raster}
use Rattle.grid_writer.proofs.read.read_sized_grid.Goals as goal

pub read_sized_values-requires : goal.read_sized_values-requires
read_sized_values-requires g c = record { sized = tiled_is_raster c.args.width c.args.height c.requires.sized }
