use Rattle.grid_writer.proofs.GridLemmas.{adds_grid}
use Rattle.grid_writer.proofs.grid.add_grid_side_by_side.Goals as goal

pub returns : goal.returns
returns g c = adds_grid (g.R.Rows.grid c.args.rows.now) c.add_head.ensures.sized c.add_head.ensures.added c.add_side_by_side.ensures
