-- Patches: the pixels of one key other than 0 that a walk joins, numbered in the row order of their first pixels.
use Rattle.std.specs.Prelude.{◌≡◌, ℕ, ◌+◌, ◌*◌, ◌/◌, ◌%◌, ◌<◌, ◌≤◌, ◌==◌, ℤ, pos, negsuc, Bool, not, List, length, Option, Some, None, if◌then◌else◌, slice_index, slice_index_or}
use Rattle.std.specs.List.{count_by, position_or_len}
use Rattle.raster_model.specs.Sums.{Field}
use Rattle.raster_model.specs.Raster.{Raster}
use Rattle.raster_model.specs.Seams.{AreJoined, AreRegions}
use Rattle.joined_cells.specs.Flood.{no_label}
use Rattle.auto_masks.specs.PatchesView.{PatchesView}

-- the key of a pixel, where a list has one for each pixel in row order
abbrev pub key_at : ℕ → List ℤ → Field ℤ
key_at w keys x y = slice_index_or keys (y * w + x) (pos 0)

-- a number for each key: 0 for the key 0, and no two keys have one number
abbrev pub key_number : ℤ → ℕ
key_number (pos n) = 2 * n
key_number (negsuc n) = 2 * n + 1

-- the pixel has a key other than 0
abbrev pub is_keyed : Field ℤ → Field Bool
is_keyed keys x y = not (key_number (keys x y) == 0)

-- a raster in which the keys are the tiles, and nothing else is told
abbrev pub keyed : ℕ → ℕ → Field ℤ → Raster
keyed w h keys = record { width = w; height = h; phase = λ x y. 0; slope = λ down. pos 0; weight = λ e. 0; tile = λ x y. key_number (keys x y); tile_count = 0; steep = 1 }

-- a walk over right, left, upper and lower neighbours joins two pixels through pixels of one key other than 0
abbrev pub AreInOnePatch : ℕ → ℕ → Field ℤ → ℕ → ℕ → ℕ → ℕ → Type 0
AreInOnePatch w h keys x y a b = AreJoined (keyed w h keys) (is_keyed keys) x y a b

-- the label of a pixel; the number of its patch, and None where its key is 0
abbrev pub patch_label : PatchesView → Field ℕ
patch_label v x y = slice_index v.labels (y * v.width + x)

abbrev pub patch_at : PatchesView → Field (Option ℕ)
patch_at v x y = if patch_label v x y == no_label then None else Some (patch_label v x y)

-- how many pixels a patch has
abbrev pub patch_size : PatchesView → ℕ → ℕ
patch_size v n = count_by (λ label. label == n) v.labels

-- the place of its first pixel in row order, and the column and the row of that pixel
abbrev pub first_place : PatchesView → ℕ → ℕ
first_place v n = position_or_len (λ label. label == n) v.labels

abbrev pub first_column : PatchesView → ℕ → ℕ
first_column v n = first_place v n % v.width

abbrev pub first_row : PatchesView → ℕ → ℕ
first_row v n = first_place v n / v.width

-- the labels tell the patches of the keys apart and number them from 0 in the row order of their first pixels, and a pixel of key 0 has no label
pub record ArePatchesOf (w h : ℕ) (keys : Field ℤ) (v : PatchesView) : Type 0 where
  pub width : v.width ≡ w
  pub height : v.height ≡ h
  pub full : length v.labels ≡ w * h
  pub patches : AreRegions (keyed w h keys) (is_keyed keys) (patch_label v) v.count
  pub told : (x y : ℕ) → x < w → y < h → patch_at v x y ≡ (if is_keyed keys x y then Some (patch_label v x y) else None)
  pub few : v.count ≤ w * h
