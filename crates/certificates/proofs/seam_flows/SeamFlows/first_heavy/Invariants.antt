use Rattle.std.proofs.Common.{◌≡◌, ◌+◌, ◌*◌, ◌≤◌, ◌-◌}
use Rattle.raster_model.specs.Flows.{seams_before}
use Rattle.certificates.specs.EdgeWords.{HoldsBefore}
use Rattle.certificates.specs.FlowWords.{held_raster, IsSeamOf, FlowFitsAt, IsSmallAt}
use Rattle.certificates.proofs.seam_flows.SeamFlows.first_heavy.Given as goal

abbrev pub invariant-loop-x : goal.invariant-loop-x
invariant-loop-x l = record {
  within : l.x ≤ l.self.scene.now.phase.width;
  counted : l.place ≡ seams_before (held_raster l.self) l.x l.y;
  few : l.place ≤ 2 * (4096 * l.y + l.x);
  fit : HoldsBefore (IsSeamOf l.self) (FlowFitsAt l.self) l.x l.y;
  small : HoldsBefore (IsSeamOf l.self) (IsSmallAt l.self) l.x l.y;
}

abbrev pub decreases-loop-x : goal.decreases-loop-x
decreases-loop-x l = l.self.scene.now.phase.width - l.x

abbrev pub invariant-loop-y : goal.invariant-loop-y
invariant-loop-y l = record {
  counted : l.place ≡ seams_before (held_raster l.self) 0 l.y;
  few : l.place ≤ 2 * (4096 * l.y);
  fit : HoldsBefore (IsSeamOf l.self) (FlowFitsAt l.self) 0 l.y;
  small : HoldsBefore (IsSeamOf l.self) (IsSmallAt l.self) 0 l.y;
}
