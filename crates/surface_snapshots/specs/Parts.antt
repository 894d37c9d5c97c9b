-- What a surface is put together from: the results of the tiles, with a whole number of cycles added on each region (Chen and Zebker 2002).
use Rattle.std.specs.Prelude.{◌≡◌, ℕ, ◌<◌, ℤ, pos, Bool, ◌&&◌, List, [], slice_get, slice_index_or, nat_lt, Option, Some, None, unwrap_or, if◌then◌else◌}
use Rattle.raster_model.specs.declared.scene.Scene.{Scene}
use Rattle.raster_model.specs.declared.session.Session.{Session}
use Rattle.raster_model.specs.MaskView.{MaskView}
use Rattle.raster_model.specs.Masks.{open_at}
use Rattle.raster_model.specs.Raster.{Raster, lifted, seam_cost, tile_cost}
use Rattle.raster_model.specs.Cells.{IsCertifiedTile}
use Rattle.raster_model.specs.Flows.{AreCertifiedSeams}
use Rattle.raster_model.specs.Scene.{raster_of}
use Rattle.raster_model.specs.Seams.{IsAnchored}
use Rattle.raster_model.specs.Sums.{Field}
use Rattle.raster_model.specs.Tiles.{tiles_of}
use Rattle.certificates.specs.declared.results.TileResult.{TileResult}
use Rattle.certificates.specs.declared.results.SeamResult.{SeamResult}
use Rattle.certificates.specs.Results.{IsGoodTile}
use Rattle.certificates.specs.TileSets.{HasOneForEach, TileSetView, solved_cycles}
use Rattle.seam_regions.specs.Regions.{shifted_by}
use Rattle.seam_regions.specs.RegionsView.{RegionsView}
use Rattle.surface_snapshots.specs.SeamsView.{SeamsView, seams_of}
use Rattle.sums_and_lists.specs.Sums.{sum_below}

pub record Parts : Type 0 where
  pub session : Session
  pub mask : MaskView
  pub regions : RegionsView
  pub tiles : TileSetView
  pub seams : SeamsView

abbrev pub parts_from : Session → MaskView → RegionsView → TileSetView → SeamResult → Parts
parts_from session mask regions tiles seams = record { session = session; mask = mask; regions = regions; tiles = tiles; seams = seams_of seams }

-- what the definitions read of the scene, and which pixels are open
abbrev pub raster_in : Parts → Raster
raster_in parts = raster_of parts.session.scene

abbrev pub open_in : Parts → Field Bool
open_in parts = open_at parts.mask

-- an open pixel of a raster, and of the surface's
abbrev pub is_open_pixel : ℕ → ℕ → Field Bool → Field Bool
is_open_pixel width height mask x y = nat_lt x width && nat_lt y height && mask x y

abbrev pub is_open_in : Parts → Field Bool
is_open_in parts = is_open_pixel parts.session.scene.phase.width parts.session.scene.phase.height (open_in parts)

-- the faces of a result
abbrev pub faces_of : Option TileResult → List ℤ
faces_of (Some k) = k.faces.items
faces_of None = []

-- the cycles that the result of a pixel's tile has there, with the offset of its region added: so far lies the surface above the phase
abbrev pub shifted_cycles : Scene → RegionsView → List TileResult → List ℤ → Field ℤ
shifted_cycles scene v results offsets = shifted_by v offsets (solved_cycles scene results)

abbrev pub cycles_in_parts : Parts → Field ℤ
cycles_in_parts parts = shifted_cycles parts.session.scene parts.regions parts.tiles.results parts.seams.offsets

abbrev pub surface_in : Parts → Field ℤ
surface_in parts = lifted (raster_in parts) (cycles_in_parts parts)

-- the surface's value at a pixel, and None if the pixel is masked
abbrev pub value_in : Parts → Field (Option ℤ)
value_in parts x y = if open_in parts x y then Some (surface_in parts x y) else None

-- the surface's value at a pixel, and another number if the pixel is masked
abbrev pub value_or : Parts → ℤ → Field ℤ
value_or parts masked x y = unwrap_or (value_in parts x y) masked

-- the list begins with the first n numbers of row y
abbrev pub BeginsWithRow : Field ℤ → ℕ → ℕ → List ℤ → Type 0
BeginsWithRow numbers y n list = (x : ℕ) → x < n → slice_index_or list x (pos 0) ≡ numbers x y

-- the faces of a tile, and the flows
abbrev pub faces_in : Parts → ℕ → List ℤ
faces_in parts tile = faces_of (slice_get parts.tiles.results tile)

abbrev pub flows_in : Parts → List ℤ
flows_in parts = parts.seams.flows

-- what all tiles cost together
unfoldable pub tile_costs : Raster → Field Bool → Field ℤ → ℤ
tile_costs raster mask S = sum_below raster.tile_count (λ t. tile_cost raster mask t S)

-- what all tiles cost, and what the seams cost
abbrev pub HaveCosts : Parts → ℕ → ℕ → Type 0
HaveCosts parts tiles seams = (pos tiles ≡ tile_costs (raster_in parts) (open_in parts) (surface_in parts)) × (pos seams ≡ seam_cost (raster_in parts) (open_in parts) (surface_in parts))

-- each tile has a result, which is good under the mask
pub record AreGoodTiles (scene : Scene) (mask : Field Bool) (results : List TileResult) : Type 0 where
  pub each : HasOneForEach scene.tiling results
  pub good : (t : ℕ) (k : TileResult) → slice_get results t ≡ Some k → IsGoodTile scene mask k

-- the surface has the phase at the first open pixel, and is certified in each tile by its faces and at the seams by its flows; like each surface of whole cycles above the phase it is congruent
pub record IsPublished (parts : Parts) : Type 0 where
  pub anchored : IsAnchored (raster_in parts) (open_in parts) (surface_in parts)
  pub tiles : (t : ℕ) → t < tiles_of parts.session.scene.tiling → IsCertifiedTile (raster_in parts) (open_in parts) t (surface_in parts) (faces_in parts t)
  pub seams : AreCertifiedSeams (raster_in parts) (open_in parts) (surface_in parts) (flows_in parts)
