use Rattle.std.proofs.Common.{◌≡◌, ◌+◌, ◌*◌, ◌≤◌, ◌-◌}
use Rattle.raster_model.specs.Flows.{seams_before}
use Rattle.certificates.specs.FlowWords.{held_raster}
use Rattle.certificates.specs.Growth.{AreWithinWeights}
use Rattle.certificates.proofs.FlowSums.{AreSoFar}
use Rattle.certificates.proofs.seam_flows.SeamFlows.add_up.Given as goal

abbrev pub invariant-loop-x : goal.invariant-loop-x
invariant-loop-x l = record {
  within : l.x ≤ l.self.scene.now.phase.width;
  counted : l.place ≡ seams_before (held_raster l.self) l.x l.y;
  few : l.place ≤ 2 * (4096 * l.y + l.x);
  so_far : AreSoFar l.self l.labels l.x l.y l.sums;
  sizes : AreWithinWeights (4 * (4096 * l.y + l.x)) l.sums;
}

abbrev pub decreases-loop-x : goal.decreases-loop-x
decreases-loop-x l = l.self.scene.now.phase.width - l.x

abbrev pub invariant-loop-y : goal.invariant-loop-y
invariant-loop-y l = record {
  counted : l.place ≡ seams_before (held_raster l.self) 0 l.y;
  few : l.place ≤ 2 * (4096 * l.y);
  so_far : AreSoFar l.self l.labels 0 l.y l.sums;
  sizes : AreWithinWeights (4 * (4096 * l.y)) l.sums;
}
