-- Stamps in words of pixels.
use Rattle.std.specs.Prelude.{◌≡◌, ◌≢◌, ℕ, ◌-◌, ◌<◌, ◌≤◌, Bool, List, length}
use Rattle.raster_model.specs.declared.script.Edit.{Edit}
use Rattle.raster_model.specs.declared.tiling.Tiling.{Tiling}
use Rattle.raster_model.specs.Sums.{Field}
use Rattle.raster_model.specs.Tiles.{tile_at}
use Rattle.mask_revisions.specs.Edits.{mask_at, stamp_of}

-- at revision r a pixel of tile t changed; none did
abbrev pub HasChange : Tiling → Field Bool → List Edit → ℕ → ℕ → Type 0
HasChange tiling first edits tile revision = (x : ℕ) × (y : ℕ) × (x < tiling.width) × (y < tiling.height) × (tile_at tiling x y ≡ tile) × (mask_at first edits (revision - 1) x y ≢ mask_at first edits revision x y)

abbrev pub HasNoChange : Tiling → Field Bool → List Edit → ℕ → ℕ → Type 0
HasNoChange tiling first edits tile revision = (x y : ℕ) → x < tiling.width → y < tiling.height → tile_at tiling x y ≡ tile → mask_at first edits (revision - 1) x y ≡ mask_at first edits revision x y

-- r is the last revision at which tile t changed, and 0 where it never did
pub record IsLastChange (tiling : Tiling) (first : Field Bool) (edits : List Edit) (tile r : ℕ) : Type 0 where
  pub within : r ≤ length edits
  pub changed : 1 ≤ r → HasChange tiling first edits tile r
  pub since : (s : ℕ) → r < s → s ≤ length edits → HasNoChange tiling first edits tile s

abbrev pub StampsLookBack : Type 0
StampsLookBack = (tiling : Tiling) (first : Field Bool) (edits : List Edit) (tile : ℕ) → IsLastChange tiling first edits tile (stamp_of tiling first edits tile)
