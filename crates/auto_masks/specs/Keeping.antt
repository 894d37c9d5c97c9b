-- A mask that loses the pixels of small patches one by one. No public clause cites this file.
use Rattle.std.specs.Prelude.{◌≡◌, ℕ, ◌+◌, ◌*◌, ◌<◌, ◌≤◌, nat_le, Bool, ◌&&◌, ◌==◌, not, IsTrue}
use Rattle.raster_model.specs.MaskView.{MaskView}
use Rattle.raster_model.specs.Masks.{open_at}
use Rattle.raster_model.specs.Sums.{Field}
use Rattle.joined_cells.specs.Flood.{no_label}
use Rattle.auto_masks.specs.Patches.{patch_label, patch_size}
use Rattle.auto_masks.specs.PatchesView.{PatchesView}

-- a pixel is in a patch of at least so many pixels
abbrev pub is_large : PatchesView → ℕ → Field Bool
is_large patches least x y = not (patch_label patches x y == no_label) && nat_le least (patch_size patches (patch_label patches x y))

-- the first k pixels in row order are open where their patches are large, and the others are open
pub record AreScreenedSoFar (patches : PatchesView) (least k : ℕ) (view : MaskView) : Type 0 where
  pub width : view.width ≡ patches.width
  pub height : view.height ≡ patches.height
  pub done : (x y : ℕ) → x < patches.width → y < patches.height → y * patches.width + x < k → open_at view x y ≡ is_large patches least x y
  pub rest : (x y : ℕ) → x < patches.width → y < patches.height → k ≤ y * patches.width + x → IsTrue (open_at view x y)
