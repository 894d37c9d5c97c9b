use Rattle.std.proofs.Common.{refl}
use Rattle.grid_writer.specs.Shown.{shown_grid}
use Rattle.grid_writer.proofs.laws.written_grids_are_grids.Goals as goal

pub returns : goal.returns
returns c = λ p ok. (shown_grid p, (ok, refl))
