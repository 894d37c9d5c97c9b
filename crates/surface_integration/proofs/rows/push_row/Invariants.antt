use Rattle.std.proofs.Common.{◌≡◌, ◌+◌, ◌-◌, ◌*◌, ◌≤◌, pos, length}
use Rattle.std.specs.Prelude.{map, slice_index_or, unsigned_abs}
use Rattle.raster_model.specs.Sheets.{sheet_raster}
use Rattle.wrapped_gradient.specs.Corrections.{greatest_of}
use Rattle.surface_integration.specs.Rows.{IsRowAdded}
use Rattle.surface_integration.proofs.rows.push_row.Given as goal

abbrev pub invariant-loop-x : goal.invariant-loop-x
invariant-loop-x g l = record {
  added : IsRowAdded (sheet_raster l.sheet) l.gradients.window l.corrections l.y (l.x - l.gradients.window.x0) l.first (map g.N.CycleNumber.value l.fn.cycles.items) (map g.N.CycleNumber.value l.cycles.items);
  last : l.here ≡ slice_index_or (map g.N.CycleNumber.value l.cycles.items) (length (map g.N.CycleNumber.value l.fn.cycles.items) + (l.x - l.gradients.window.x0)) (pos 0);
  near : unsigned_abs l.here ≤ (l.x - l.gradients.window.x0 + (l.y - l.gradients.window.y0)) * (greatest_of l.corrections + 1);
}
