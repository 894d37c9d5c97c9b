use Rattle.std.proofs.Common.{◌+◌, ◌*◌, min, true}
use Rattle.raster_model.specs.Bits.{AreAllBits}
use Rattle.raster_model.proofs.bits.are_all_ones.Given as goal

abbrev pub invariant-loop-place : goal.invariant-loop-place
invariant-loop-place l = AreAllBits l.words l.first (min (l.place * 64) (l.last + 1)) true
