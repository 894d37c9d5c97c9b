-- The links of a surface that are found strip by strip. No public clause cites this file.
use Rattle.std.specs.Prelude.{ℕ, ◌+◌, ◌*◌, ◌<◌, Option, List, IfSome, length, min, slice_index_or}
use Rattle.raster_model.specs.Masks.{open_at}
use Rattle.raster_model.specs.Scene.{raster_of}
use Rattle.certificates.specs.TileSets.{solved_cycles}
use Rattle.seam_regions.specs.Regions.{region_label}
use Rattle.seam_regions.specs.RegionsView.{RegionsView}
use Rattle.offset_guess.specs.declared.link.Link.{Link}
use Rattle.offset_network.specs.declared.strips.Strip.{Strip}
use Rattle.offset_network.specs.declared.surface.TileSurface.{TileSurface}
use Rattle.offset_network.specs.Seams.{AreStripLinks, JoinRegions}

-- the links of the seam edges of a surface that start in the rows from a to before b, and each joins two of the regions
pub record AreLinksOfRows (surface : TileSurface) (regions : RegionsView) (a b : ℕ) (links : List (Option Link)) : Type 0 where
  pub seams : AreStripLinks (raster_of surface.scene.now) (open_at surface.mask.now) (region_label regions) (solved_cycles surface.scene.now surface.tiles.now.results) a b links
  pub join : JoinRegions regions.count links

-- what was found for the strip at a place, where each has so many rows as far as the raster goes, are its links
abbrev pub IsFound : TileSurface → RegionsView → ℕ → ℕ → Strip → Type 0
IsFound surface regions rows place strip = IfSome strip.links (λ links. AreLinksOfRows surface regions (place * rows) (min ((place + 1) * rows) surface.scene.now.phase.height) links.items)

-- and so for all strips
abbrev pub AreFound : TileSurface → RegionsView → ℕ → List Strip → Type 0
AreFound surface regions rows strips = (place : ℕ) (d : Strip) → place < length strips → IsFound surface regions rows place (slice_index_or strips place d)
