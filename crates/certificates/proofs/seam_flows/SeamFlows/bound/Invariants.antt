use Rattle.std.proofs.Common.{◌≡◌, ◌*◌, ◌+◌, ◌≤◌, ◌^◌, ◌+ℤ◌, ◌-◌}
use Rattle.std.specs.Prelude.{unsigned_abs}
use Rattle.raster_model.specs.Flows.{seams_before}
use Rattle.raster_model.specs.Sums.{sum_row, sum_grid}
use Rattle.certificates.specs.FlowWords.{held_raster, parts_from}
use Rattle.certificates.proofs.seam_flows.SeamFlows.bound.Given as goal

abbrev pub invariant-loop-x : goal.invariant-loop-x
invariant-loop-x g l = record {
  within : l.x ≤ l.self.scene.now.phase.width;
  counted : l.place ≡ seams_before (held_raster l.self) l.x l.y;
  few : l.place ≤ 2 * (4096 * l.y + l.x);
  sum : l.bound ≡ sum_grid l.self.scene.now.phase.width l.y (parts_from l.self (g.H.Heights.cycles_at l.heights)) +ℤ sum_row l.x (parts_from l.self (g.H.Heights.cycles_at l.heights)) l.y;
  small : unsigned_abs l.bound ≤ 2 * 1048560 * (2 ^ 49 + 2) * (4096 * l.y + l.x);
}

abbrev pub decreases-loop-x : goal.decreases-loop-x
decreases-loop-x g l = l.self.scene.now.phase.width - l.x

abbrev pub invariant-loop-y : goal.invariant-loop-y
invariant-loop-y g l = record {
  counted : l.place ≡ seams_before (held_raster l.self) 0 l.y;
  few : l.place ≤ 2 * (4096 * l.y);
  sum : l.bound ≡ sum_grid l.self.scene.now.phase.width l.y (parts_from l.self (g.H.Heights.cycles_at l.heights));
  small : unsigned_abs l.bound ≤ 2 * 1048560 * (2 ^ 49 + 2) * (4096 * l.y);
}
