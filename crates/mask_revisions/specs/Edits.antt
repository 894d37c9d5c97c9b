-- Masks through a list of edits, and the revisions at which a tile changed. Revision r is the mask after the first r edits.
use Rattle.std.specs.Prelude.{ℕ, zero, suc, ◌-◌, Bool, true, false, ◌&&◌, ◌||◌, ◌==◌, not, nat_le, if◌then◌else◌, List, [], ◌∷◌, length, take}
use Rattle.raster_model.specs.declared.script.Edit.{Edit}
use Rattle.raster_model.specs.declared.script.Edit.TheVariants.{Mask, Unmask}
use Rattle.raster_model.specs.declared.script.Rect.{Rect}
use Rattle.raster_model.specs.declared.tiling.Tiling.{Tiling}
use Rattle.raster_model.specs.Scripts.{rect_of}
use Rattle.raster_model.specs.Sums.{Field}
use Rattle.raster_model.specs.Tiles.{tile_at}

-- the box has the pixel, both corners included
abbrev pub has_pixel : Rect → Field Bool
has_pixel rect x y = (nat_le rect.x0 x && nat_le x rect.x1) && (nat_le rect.y0 y && nat_le y rect.y1)

-- whether an edit opens the pixels of its box; otherwise it masks them
abbrev pub opens : Edit → Bool
opens (Mask r) = false
opens (Unmask r) = true

-- a mask with an edit applied
abbrev pub edited : Edit → Field Bool → Field Bool
edited edit mask x y = if has_pixel (rect_of edit) x y then opens edit else mask x y

-- a mask with edits applied in order
unfoldable pub mask_after : Field Bool → List Edit → Field Bool
mask_after first [] = first
mask_after first (e ∷ es) = mask_after (edited e first) es

-- the mask at revision r
abbrev pub mask_at : Field Bool → List Edit → ℕ → Field Bool
mask_at first edits revision = mask_after first (take revision edits)

-- some number below n passes a test
unfoldable pub any_below : ℕ → (ℕ → Bool) → Bool
any_below zero p = false
any_below (suc n) p = p n || any_below n p

-- one of two tests passes and the other does not
abbrev pub differs : Bool → Bool → Bool
differs a b = if a then not b else b

-- two masks differ at a pixel of a tile
unfoldable pub differ_in : Tiling → Field Bool → Field Bool → ℕ → Bool
differ_in tiling old new tile = any_below tiling.height (λ y. any_below tiling.width (λ x. (tile_at tiling x y == tile) && differs (old x y) (new x y)))

-- the greatest number from 1 to n that passes a test, and 0 where none does
unfoldable pub last_up_to : ℕ → (ℕ → Bool) → ℕ
last_up_to zero p = 0
last_up_to (suc n) p = if p (suc n) then suc n else last_up_to n p

-- whether a tile has a pixel that changed at revision r
abbrev pub changes_at : Tiling → Field Bool → List Edit → ℕ → ℕ → Bool
changes_at tiling first edits tile revision = differ_in tiling (mask_at first edits (revision - 1)) (mask_at first edits revision) tile

-- the stamp of a tile: the greatest revision at which it changed, and 0 where there is none
abbrev pub stamp_of : Tiling → Field Bool → List Edit → ℕ → ℕ
stamp_of tiling first edits tile = last_up_to (length edits) (changes_at tiling first edits tile)
