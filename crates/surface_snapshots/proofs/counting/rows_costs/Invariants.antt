use Rattle.raster_model.specs.Masks.{open_at}
use Rattle.raster_model.specs.Raster.{lifted}
use Rattle.raster_model.specs.Scene.{raster_of}
use Rattle.surface_snapshots.specs.Loops.{AreOfRows}
use Rattle.surface_snapshots.proofs.counting.rows_costs.Given as goal

abbrev pub invariant-loop-y : goal.invariant-loop-y
invariant-loop-y g l = AreOfRows (raster_of l.scene) (open_at l.mask) (lifted (raster_of l.scene) (g.H.Heights.cycles_at l.heights)) l.first l.y l.costs
