use Rattle.std.proofs.Common.{arith, refl}
use Rattle.raster_model.specs.Masks.{open_at}
use Rattle.text_pages.proofs.TextsFrom.{adds_none, adds_one_more}
use Rattle.grid_writer.specs.Grid.{grid_row}
use Rattle.certain_parts.specs.PartsText.{labels_grid}
use Rattle.certain_parts.proofs.RowLemmas.{row_of_line}
use Rattle.certain_parts.proofs.rows.LabelRowsPassages.add.Goals as goal

pub loop-y-init : goal.loop-y-init
loop-y-init g c =
    let s = c.args.self.now in
    adds_none _ (grid_row (labels_grid s.parts.now (open_at s.mask.now)).values s.parts.now.width) c.args.from c.args.from refl

pub loop-y-preserved : goal.loop-y-preserved
loop-y-preserved g c =
    let s = c.args.self.now in
    adds_one_more (grid_row (labels_grid s.parts.now (open_at s.mask.now)).values s.parts.now.width) c.args.from c.loop-y.y (omega arith) c.loop-y.invariant (row_of_line s.parts.now (open_at s.mask.now) c.loop-y.y c.add_row.ensures c.end_line.ensures)
