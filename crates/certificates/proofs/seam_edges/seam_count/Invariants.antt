use Rattle.std.proofs.Common.{◌≡◌, ◌+◌, ◌*◌, ◌≤◌, ◌-◌}
use Rattle.raster_model.specs.Flows.{seams_before}
use Rattle.raster_model.specs.Scene.{raster_of}
use Rattle.certificates.proofs.seam_edges.seam_count.Given as goal

abbrev pub invariant-loop-x : goal.invariant-loop-x
invariant-loop-x l = record {
  within : l.x ≤ l.scene.phase.width;
  counted : l.count ≡ seams_before (raster_of l.scene) l.x l.y;
  few : l.count ≤ 2 * (4096 * l.y + l.x);
}

abbrev pub decreases-loop-x : goal.decreases-loop-x
decreases-loop-x l = l.scene.phase.width - l.x

abbrev pub invariant-loop-y : goal.invariant-loop-y
invariant-loop-y l = record {
  counted : l.count ≡ seams_before (raster_of l.scene) 0 l.y;
  few : l.count ≤ 2 * (4096 * l.y);
}
