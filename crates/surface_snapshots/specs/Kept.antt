-- The parts of a surface, from what a snapshot keeps of them. Clauses cite it only through `parts_of`, which unfolds into it.
use Rattle.std.specs.Prelude.{ℕ, ℤ, List}
use Rattle.raster_model.specs.declared.session.Session.{Session}
use Rattle.certificates.specs.TileSets.{TileSetView}
use Rattle.seam_regions.specs.RegionsView.{RegionsView}
use Rattle.surface_snapshots.specs.Parts.{Parts}
use Rattle.surface_snapshots.specs.Tiled.{mask_told}

abbrev pub parts_kept : Session → RegionsView → TileSetView → ℕ → List ℤ → List ℤ → Parts
parts_kept session regions tiles revision offsets flows = record {
  session = session;
  mask = mask_told regions;
  regions = regions;
  tiles = tiles;
  seams = record { revision = revision; offsets = offsets; flows = flows };
}
