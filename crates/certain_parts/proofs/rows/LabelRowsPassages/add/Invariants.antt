use Rattle.std.proofs.Common.{◌-◌}
use Rattle.raster_model.specs.Masks.{open_at}
use Rattle.text_lines.specs.Adding.{Adds}
use Rattle.text_lines.specs.Views.{view_of}
use Rattle.text_pages.specs.Passages.{texts_from}
use Rattle.grid_writer.specs.Grid.{grid_row}
use Rattle.certain_parts.specs.PartsText.{labels_grid}
use Rattle.certain_parts.proofs.rows.LabelRowsPassages.add.Given as goal

abbrev pub invariant-loop-y : goal.invariant-loop-y
invariant-loop-y g l = Adds (view_of g.K.Sink.held g.K.Sink.faults l.fn.text) (view_of g.K.Sink.held g.K.Sink.faults l.text) (texts_from (grid_row (labels_grid l.self.parts.now (open_at l.self.mask.now)).values l.self.parts.now.width) l.from (l.y - l.from))
