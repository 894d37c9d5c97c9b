use Rattle.grid_writer.specs.Grids.{grid_of}
use Rattle.grid_writer.proofs.GridLemmas.{adds_grid}
use Rattle.grid_writer.proofs.grid.add_values.Goals as goal

pub returns : goal.returns
returns g c = adds_grid (grid_of c.args.grid.now) c.args.grid.now.sized c.add_header.ensures c.add_all.ensures
