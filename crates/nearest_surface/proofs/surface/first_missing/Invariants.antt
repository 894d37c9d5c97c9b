use Rattle.raster_model.specs.Masks.{open_at}
use Rattle.grid_writer.specs.Grids.{grid_of}
use Rattle.nearest_surface.specs.Nearest.{IsMissing}
use Rattle.nearest_surface.proofs.PlaceLemmas.{AtNone}
use Rattle.nearest_surface.proofs.surface.first_missing.Given as goal

abbrev pub invariant-loop-place : goal.invariant-loop-place
invariant-loop-place l = AtNone l.given.width (IsMissing (open_at l.mask) (grid_of l.given).values) l.place
