use Rattle.std.proofs.Common.{refl, arith}
use Rattle.text_pages.proofs.TextsFrom.{adds_none, adds_one_more}
use Rattle.grid_writer.specs.Grid.{grid_row}
use Rattle.raster_model.specs.Masks.{open_at}
use Rattle.raster_model.specs.Sheets.{sheet_raster}
use Rattle.whole_text.specs.Told.{value_above}
use Rattle.whole_text.proofs.rows.SurfaceRowsPassages.add.Goals as goal

pub loop-y-init : goal.loop-y-init
loop-y-init g c =
    let s = c.args.self.now in
    adds_none _ (grid_row (value_above (sheet_raster s.sheet.now) (open_at s.mask.now) (g.H.Heights.cycles_at s.heights.now)) s.sheet.now.phase.now.width) c.args.from c.args.from refl

pub loop-y-preserved : goal.loop-y-preserved
loop-y-preserved g c =
    let s = c.args.self.now in
    adds_one_more (grid_row (value_above (sheet_raster s.sheet.now) (open_at s.mask.now) (g.H.Heights.cycles_at s.heights.now)) s.sheet.now.phase.now.width) c.args.from c.loop-y.y (omega arith) c.loop-y.invariant c.add_line.ensures
