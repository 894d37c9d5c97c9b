use Rattle.std.proofs.Common.{◌≤◌}
use Rattle.raster_model.specs.Masks.{open_at}
use Rattle.text_lines.specs.Adding.{Adds}
use Rattle.text_lines.specs.Views.{view_of}
use Rattle.certain_parts.specs.PartsText.{labels_line}
use Rattle.certain_parts.proofs.rows.LabelRows.add_row.Given as goal

abbrev pub invariant-loop-x : goal.invariant-loop-x
invariant-loop-x g l = record {
  added : Adds (view_of g.K.Sink.held g.K.Sink.faults l.fn.text) (view_of g.K.Sink.held g.K.Sink.faults l.text) (labels_line l.self.parts.now (open_at l.self.mask.now) l.y l.x);
  some : 1 ≤ l.x;
}
