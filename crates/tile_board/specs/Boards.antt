-- What a board keeps of its history.
use Rattle.std.specs.Prelude.{◌≡◌, ℕ, ◌≤◌, IsTrue, IsFalse, Option, Some, None, List, length, map, slice_get}
use Rattle.raster_model.specs.declared.session.Session.{Session}
use Rattle.raster_model.specs.Masks.{IsMaskOf}
use Rattle.raster_model.specs.Tiles.{tiles_of}
use Rattle.certificates.specs.declared.results.TileResult.{TileResult}
use Rattle.certificates.specs.declared.verdicts.SeamVerdict.TheVariants.{Good}
use Rattle.certificates.specs.Results.{IsGoodTile}
use Rattle.seam_regions.specs.Regions.{AreRegionsOf}
use Rattle.surface_snapshots.specs.Parts.{Parts, open_in, AreGoodTiles, IsPublished}
use Rattle.surface_snapshots.specs.Verdicts.{IsPartsVerdict}
use Rattle.tile_board.specs.declared.entry.Entry.{Entry}
use Rattle.tile_board.specs.BoardView.{BoardView}
use Rattle.tile_board.specs.Histories.{IsLegal, is_kept, mask_in, now_of, present_mask, published_in, stamp_in}

-- the result is the tile's, has its stamp, and is good under the present mask
pub record IsHeld (s : Session) (H : List Entry) (t : ℕ) (outcome : TileResult) : Type 0 where
  pub told : IsTrue (is_kept s H t)
  pub tile : outcome.tile ≡ t
  pub stamp : outcome.stamp ≡ stamp_in s H t
  pub good : IsGoodTile s.scene (present_mask s H) outcome

-- what is held for a tile: a result exactly if the history kept the tile; and for all tiles
abbrev pub IsPlace : Session → List Entry → ℕ → Option TileResult → Type 0
IsPlace s H t None = IsFalse (is_kept s H t)
IsPlace s H t (Some k) = IsHeld s H t k

pub record AreKept (s : Session) (H : List Entry) (kept : List (Option TileResult)) : Type 0 where
  pub count : length kept ≡ tiles_of s.scene.tiling
  pub each : (t : ℕ) (place : Option TileResult) → slice_get kept t ≡ Some place → IsPlace s H t place

-- a certified surface of a revision of the history, over the mask at that revision
pub record IsSurfaceOf (s : Session) (H : List Entry) (parts : Parts) : Type 0 where
  pub revision : parts.seams.revision ≤ now_of H
  pub session : parts.session ≡ s
  pub mask : IsMaskOf parts.mask s.scene.phase.width s.scene.phase.height (mask_in s H parts.seams.revision)
  pub regions : AreRegionsOf s.scene.tiling parts.mask parts.regions
  pub tiling : parts.tiles.tiling ≡ s.scene.tiling
  pub tiles : AreGoodTiles s.scene (open_in parts) parts.tiles.results
  pub published : IsPublished parts
  pub verdict : IsPartsVerdict parts Good

-- the surfaces are those of the published revisions, in order
pub record AreSurfacesOf (s : Session) (H : List Entry) (surfaces : List Parts) : Type 0 where
  pub revisions : map (λ p. p.seams.revision) surfaces ≡ published_in H
  pub each : (j : ℕ) (p : Parts) → slice_get surfaces j ≡ Some p → IsSurfaceOf s H p

-- the history is legal, and results and surfaces are as it says
pub record IsBoard (board : BoardView) : Type 0 where
  pub legal : IsLegal board.session board.entries
  pub kept : AreKept board.session board.entries board.kept
  pub surfaces : AreSurfacesOf board.session board.entries board.surfaces
