use Rattle.std.proofs.Common.{length, ◌-◌, ◌≤◌, take}
use Rattle.text_lines.specs.Adding.{Adds}
use Rattle.text_lines.specs.Views.{view_of}
use Rattle.pgm_planes.proofs.Words.{is_wide, raster_text}
use Rattle.pgm_planes.proofs.write.add_raster.Given as goal

abbrev pub invariant-loop-start : goal.invariant-loop-start
invariant-loop-start g l = record {
  within : l.start ≤ length l.samples;
  added : Adds (view_of g.K.Sink.held g.K.Sink.faults l.fn.text) (view_of g.K.Sink.held g.K.Sink.faults l.text) (raster_text (is_wide l.maxval) (take l.start l.samples));
}

abbrev pub decreases-loop-start : goal.decreases-loop-start
decreases-loop-start g l = length l.samples - l.start
