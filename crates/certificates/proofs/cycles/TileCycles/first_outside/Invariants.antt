use Rattle.certificates.specs.Results.{AreInRangeBefore}
use Rattle.raster_model.specs.Masks.{open_at}
use Rattle.certificates.proofs.cycles.TileCycles.first_outside.Given as goal

abbrev pub invariant-loop-x : goal.invariant-loop-x
invariant-loop-x l = AreInRangeBefore l.self.window (open_at l.mask) l.self.cycles.now l.x l.y

abbrev pub invariant-loop-y : goal.invariant-loop-y
invariant-loop-y l = AreInRangeBefore l.self.window (open_at l.mask) l.self.cycles.now l.self.window.x0 l.y
