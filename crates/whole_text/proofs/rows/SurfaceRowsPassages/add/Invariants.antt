use Rattle.std.proofs.Common.{◌-◌}
use Rattle.text_lines.specs.Adding.{Adds}
use Rattle.text_lines.specs.Views.{view_of}
use Rattle.text_pages.specs.Passages.{texts_from}
use Rattle.grid_writer.specs.Grid.{grid_row}
use Rattle.raster_model.specs.Masks.{open_at}
use Rattle.raster_model.specs.Sheets.{sheet_raster}
use Rattle.whole_text.specs.Told.{value_above}
use Rattle.whole_text.proofs.rows.SurfaceRowsPassages.add.Given as goal

abbrev pub invariant-loop-y : goal.invariant-loop-y
invariant-loop-y g l =
    let values = value_above (sheet_raster l.self.sheet.now) (open_at l.self.mask.now) (g.H.Heights.cycles_at l.self.heights.now) in
    Adds (view_of g.K.Sink.held g.K.Sink.faults l.fn.text) (view_of g.K.Sink.held g.K.Sink.faults l.text) (texts_from (grid_row values l.self.sheet.now.phase.now.width) l.from (l.y - l.from))
