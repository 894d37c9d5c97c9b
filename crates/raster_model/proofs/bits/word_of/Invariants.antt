use Rattle.raster_model.specs.Bits.{TellsNonzero}
use Rattle.raster_model.proofs.bits.word_of.Given as goal

abbrev pub invariant-loop-place : goal.invariant-loop-place
invariant-loop-place l = TellsNonzero l.samples l.start l.place l.word
