use Rattle.text_lines.specs.Adding.{Adds}
use Rattle.text_lines.specs.Numbers.{numbers_line}
use Rattle.text_lines.specs.Views.{view_of}
use Rattle.grid_writer.specs.Grid.{values_below}
use Rattle.raster_model.specs.Masks.{open_at}
use Rattle.raster_model.specs.Sheets.{sheet_raster}
use Rattle.whole_text.specs.Told.{value_above}
use Rattle.whole_text.proofs.rows.SurfaceRows.add_line.Given as goal

abbrev pub invariant-loop-x : goal.invariant-loop-x
invariant-loop-x g l =
    let values = value_above (sheet_raster l.self.sheet.now) (open_at l.self.mask.now) (g.H.Heights.cycles_at l.self.heights.now) in
    Adds (view_of g.K.Sink.held g.K.Sink.faults l.fn.text) (view_of g.K.Sink.held g.K.Sink.faults l.text) (numbers_line (values_below l.x (λ x. values x l.y)))
