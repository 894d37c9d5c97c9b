use Rattle.std.proofs.Common.{◌≡◌, ◌+◌, ◌-◌, ◌*◌, length}
use Rattle.raster_model.specs.Sheets.{sheet_raster}
use Rattle.wrapped_gradient.specs.Rows.{of_right_edges}
use Rattle.wrapped_gradient.proofs.DifferenceLemmas.{AreTold}
use Rattle.wrapped_gradient.proofs.gradients.right_differences.Given as goal

abbrev pub invariant-loop-y : goal.invariant-loop-y
invariant-loop-y l = record {
  count : length l.list.items ≡ (l.window.x1 - l.window.x0) * (l.window.y1 - l.window.y0 + 1);
  told : AreTold (of_right_edges (sheet_raster l.sheet)) l.window.x0 l.window.y0 (l.window.x1 - l.window.x0) ((l.y - l.window.y0) * (l.window.x1 - l.window.x0)) l.list.items;
}
