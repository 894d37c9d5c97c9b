-- Revisions that belong to a first mask and a list of edits.
use Rattle.std.specs.Prelude.{◌≡◌, ℕ, ◌+◌, ◌*◌, ◌<◌, Bool, IsTrue, if◌then◌else◌, List, length, slice_index, slice_index_or}
use Rattle.raster_model.specs.declared.script.Edit.{Edit}
use Rattle.raster_model.specs.declared.script.Rect.{Rect}
use Rattle.raster_model.specs.declared.tiling.Tiling.{Tiling}
use Rattle.raster_model.specs.declared.tiling.Window.{Window}
use Rattle.raster_model.specs.Masks.{open_at, IsMaskOf}
use Rattle.raster_model.specs.Sums.{Field}
use Rattle.raster_model.specs.Tiles.{IsWithin, height_of, place_in, tile_at, tiles_of, width_of}
use Rattle.mask_revisions.specs.Edits.{edited, has_pixel, mask_after, differ_in, stamp_of}
use Rattle.mask_revisions.specs.RevisionsView.{RevisionsView}

-- the revisions are those of a first mask and these edits
pub record AreRevisionsOf (first : Field Bool) (edits : List Edit) (v : RevisionsView) : Type 0 where
  pub mask : IsMaskOf v.mask v.tiling.width v.tiling.height (mask_after first edits)
  pub count : v.count ≡ length edits
  pub stamps : (t : ℕ) → t < tiles_of v.tiling → slice_index v.stamps t ≡ stamp_of v.tiling first edits t

-- one more edit was applied: the count rose, and the tiles that changed have the new one as their stamp
pub record AddsEdit (old new : RevisionsView) (edit : Edit) : Type 0 where
  pub tiling : new.tiling ≡ old.tiling
  pub mask : IsMaskOf new.mask old.tiling.width old.tiling.height (edited edit (open_at old.mask))
  pub count : new.count ≡ old.count + 1
  pub stamps : (t : ℕ) → t < tiles_of old.tiling → slice_index new.stamps t ≡ (if differ_in old.tiling (open_at old.mask) (open_at new.mask) t then old.count + 1 else slice_index old.stamps t)

-- the list has exactly the tiles at a pixel of which two masks differ, and each once, in order
pub record AreChanged (g : Tiling) (old new : Field Bool) (tiles : List ℕ) : Type 0 where
  pub rising : (i j : ℕ) → i < j → j < length tiles → slice_index tiles i < slice_index tiles j
  pub exist : (i : ℕ) → i < length tiles → slice_index tiles i < tiles_of g
  pub changed : (i : ℕ) → i < length tiles → IsTrue (differ_in g old new (slice_index tiles i))
  pub all : (t : ℕ) → t < tiles_of g → IsTrue (differ_in g old new t) → (i : ℕ) × (i < length tiles) × (slice_index tiles i ≡ t)

-- a pixel of the box lies in the tile
abbrev pub Meets : Tiling → Rect → ℕ → Type 0
Meets g rect tile = (x : ℕ) × (y : ℕ) × (x < g.width) × (y < g.height) × IsTrue (has_pixel rect x y) × (tile_at g x y ≡ tile)

-- the list has exactly the tiles in which a pixel of the box lies, and each once, in order
pub record AreMet (g : Tiling) (rect : Rect) (tiles : List ℕ) : Type 0 where
  pub rising : (i j : ℕ) → i < j → j < length tiles → slice_index tiles i < slice_index tiles j
  pub exist : (i : ℕ) → i < length tiles → slice_index tiles i < tiles_of g
  pub met : (i : ℕ) → i < length tiles → Meets g rect (slice_index tiles i)
  pub all : (t : ℕ) → Meets g rect t → (i : ℕ) × (i < length tiles) × (slice_index tiles i ≡ t)

-- the list says of each pixel of a window, in row order, whether it is open
pub record IsWindowMask (window : Window) (mask : Field Bool) (list : List Bool) : Type 0 where
  pub size : length list ≡ width_of window * height_of window
  pub clear : (x y : ℕ) → IsWithin window x y → slice_index_or list (place_in window x y) Bool.false ≡ mask x y
