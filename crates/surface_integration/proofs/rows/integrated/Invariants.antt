use Rattle.std.proofs.Common.{◌≡◌, ◌+◌, ◌-◌, ◌*◌, ◌≤◌}
use Rattle.std.specs.Prelude.{map, unsigned_abs}
use Rattle.raster_model.specs.Sheets.{sheet_raster}
use Rattle.wrapped_gradient.specs.Corrections.{greatest_of}
use Rattle.surface_integration.specs.Cycles.{cycles_at}
use Rattle.surface_integration.proofs.Filled.{IsFilled}
use Rattle.surface_integration.proofs.rows.integrated.Given as goal

abbrev pub invariant-loop-y : goal.invariant-loop-y
invariant-loop-y g l = record {
  filled : IsFilled (sheet_raster l.sheet) l.gradients.window l.corrections (l.y - l.gradients.window.y0 + 1) (map g.N.CycleNumber.value l.cycles.items);
  begins : l.first ≡ cycles_at l.gradients.window (map g.N.CycleNumber.value l.cycles.items) l.gradients.window.x0 l.y;
  near : unsigned_abs l.first ≤ (l.y - l.gradients.window.y0) * (greatest_of l.corrections + 1);
}
