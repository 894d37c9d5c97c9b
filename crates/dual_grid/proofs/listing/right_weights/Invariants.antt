use Rattle.std.proofs.Common.{◌+◌, ◌-◌, ◌*◌, ◌≤◌, ℕ, get_or}
use Rattle.std.specs.Prelude.{pos, unsigned_abs}
use Rattle.wrapped_gradient.specs.Rows.{AreInRows}
use Rattle.raster_model.specs.Tiles.{width_of}
use Rattle.raster_model.specs.Sheets.{sheet_raster}
use Rattle.dual_grid.specs.Problems.{right_edge_weights}
use Rattle.dual_grid.proofs.listing.right_weights.Given as goal

abbrev pub invariant-loop-x : goal.invariant-loop-x
invariant-loop-x l = record {
  rows : AreInRows (right_edge_weights (sheet_raster l.sheet) l.window l.unmasked) l.window.x0 l.window.y0 (width_of l.window - 1) ((l.y - l.window.y0) * (width_of l.window - 1) + (l.x - l.window.x0)) l.list.items;
  small : (k : ℕ) → unsigned_abs (get_or l.list.items k (pos 0)) ≤ 65535;
}

abbrev pub invariant-loop-y : goal.invariant-loop-y
invariant-loop-y l = record {
  rows : AreInRows (right_edge_weights (sheet_raster l.sheet) l.window l.unmasked) l.window.x0 l.window.y0 (width_of l.window - 1) ((l.y - l.window.y0) * (width_of l.window - 1)) l.list.items;
  small : (k : ℕ) → unsigned_abs (get_or l.list.items k (pos 0)) ≤ 65535;
}
