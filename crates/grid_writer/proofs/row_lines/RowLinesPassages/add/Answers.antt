use Rattle.std.proofs.Common.{◌∙◌, ◌≤◌, length, inl, inr, refl, arith}
use Rattle.sums_and_lists.proofs.Orders.{below_or_last}
use Rattle.grid_writer.specs.Grid.{grid_row}
use Rattle.grid_writer.proofs.SizeLemmas.{sized_parts}
use Rattle.grid_writer.proofs.ValueLemmas.{row_taken, taken_long}
use Rattle.text_pages.proofs.TextsFrom.{adds_none, adds_one_more}
use Rattle.grid_writer.proofs.row_lines.RowLinesPassages.add.Goals as goal

pub loop-y-init : goal.loop-y-init
loop-y-init g c =
    let grid = g.R.Rows.grid c.args.self.now.rows.now in
    record { added = adds_none _ (grid_row grid.values grid.width) c.args.from c.args.from refl; size = refl; longs = λ y l ly. absurd (omega (arith, l, ly)) }

pub loop-y-preserved : goal.loop-y-preserved
loop-y-preserved g c =
    let grid = g.R.Rows.grid c.args.self.now.rows.now in
    let row = c.fill_row.new.row in
    let narrow = (sized_parts grid.width grid.height c.width-width.ensures.sized).narrow in
    let room : grid.width ≤ length row = omega (arith, narrow, c.fill_row.ensures.same, c.loop-y.invariant.size) in
    let values = row_taken grid.width row grid.values c.loop-y.y room c.fill_row.ensures.front in
    let i = c.loop-y.invariant in
    record {
      added = adds_one_more (grid_row grid.values grid.width) c.args.from c.loop-y.y (omega arith) i.added (rw (c.width-width.ensures.width, values) at c.add_line.ensures.added);
      size = c.fill_row.ensures.same ∙ i.size;
      longs = λ y l ly. elim (below_or_last y c.loop-y.y ly) [
        | inl below ↦ i.longs y l below
        | inr last ↦ rw last (taken_long grid.width row grid.values c.loop-y.y room c.fill_row.ensures.front (rw c.width-width.ensures.width at c.add_line.ensures.longs))
      ];
    }
