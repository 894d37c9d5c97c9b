use Rattle.raster_model.specs.Masks.{open_at}
use Rattle.whole_solver.proofs.WholeLemmas.{AreListed}
use Rattle.whole_solver.proofs.network.open_pixels.Given as goal

abbrev pub invariant-loop-place : goal.invariant-loop-place
invariant-loop-place l = AreListed l.sheet.phase.now.width l.place (open_at l.mask) l.list.items
