use Rattle.std.proofs.Common.{◌≡◌, ◌+◌, ◌≤◌, ◌-◌, length}
use Rattle.raster_model.specs.Flows.{seams_before}
use Rattle.raster_model.specs.Masks.{open_at}
use Rattle.raster_model.specs.Scene.{raster_of}
use Rattle.certificates.specs.EdgeWords.{HoldsBefore}
use Rattle.certificates.specs.SeamVerdicts.{IsSeamEdge}
use Rattle.seam_regions.specs.Regions.{region_label}
use Rattle.offset_network.specs.Seams.{IsPlacedSince, JoinRegions}
use Rattle.certificates.specs.TileSets.{solved_cycles}
use Rattle.offset_network.proofs.links.strip_links.Given as goal

abbrev pub invariant-loop-x : goal.invariant-loop-x
invariant-loop-x l = record {
  within : l.x ≤ l.surface.scene.now.phase.width;
  counted : seams_before (raster_of l.surface.scene.now) 0 l.first + length l.links.items ≡ seams_before (raster_of l.surface.scene.now) l.x l.y;
  placed : HoldsBefore (IsSeamEdge (raster_of l.surface.scene.now)) (IsPlacedSince (raster_of l.surface.scene.now) (open_at l.surface.mask.now) (region_label l.regions) (solved_cycles l.surface.scene.now l.surface.tiles.now.results) l.first l.links.items) l.x l.y;
  join : JoinRegions l.regions.count l.links.items;
}

abbrev pub decreases-loop-x : goal.decreases-loop-x
decreases-loop-x l = l.surface.scene.now.phase.width - l.x

abbrev pub invariant-loop-y : goal.invariant-loop-y
invariant-loop-y l = record {
  counted : seams_before (raster_of l.surface.scene.now) 0 l.first + length l.links.items ≡ seams_before (raster_of l.surface.scene.now) 0 l.y;
  placed : HoldsBefore (IsSeamEdge (raster_of l.surface.scene.now)) (IsPlacedSince (raster_of l.surface.scene.now) (open_at l.surface.mask.now) (region_label l.regions) (solved_cycles l.surface.scene.now l.surface.tiles.now.results) l.first l.links.items) 0 l.y;
  join : JoinRegions l.regions.count l.links.items;
}
