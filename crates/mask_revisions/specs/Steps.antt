-- Words of helpers, which no public clause cites: boxes of a mask that were set, and tiles that were looked at.
use Rattle.std.specs.Prelude.{◌≡◌, ◌≢◌, ℕ, ◌+◌, ◌-◌, ◌*◌, ◌/◌, ◌%◌, ◌<◌, ◌≤◌, Bool, ◌&&◌, ◌==◌, IsTrue, nat_le, nat_lt, if◌then◌else◌, List, length, slice_index}
use Rattle.raster_model.specs.declared.script.Edit.{Edit}
use Rattle.raster_model.specs.declared.script.Rect.{Rect}
use Rattle.raster_model.specs.declared.tiling.Tiling.{Tiling}
use Rattle.raster_model.specs.MaskView.{MaskView}
use Rattle.raster_model.specs.Masks.{open_at}
use Rattle.raster_model.specs.Scripts.{IsRectIn, rect_of}
use Rattle.raster_model.specs.Sums.{Field}
use Rattle.raster_model.specs.Tiles.{columns_of_tiles, tile_at}
use Rattle.mask_revisions.specs.Edits.{has_pixel, opens}

-- the box from (x0, y0) to before column x1 and row y1 has the pixel
abbrev pub in_box : ℕ → ℕ → ℕ → ℕ → Field Bool
in_box x0 x1 y0 y1 x y = (nat_le x0 x && nat_lt x x1) && (nat_le y0 y && nat_lt y y1)

-- the new mask is the old one but for a box, where it is open exactly if the test says so
pub record IsBoxSet (old new : MaskView) (x0 x1 y0 y1 : ℕ) (unmasked : Bool) : Type 0 where
  pub width : new.width ≡ old.width
  pub height : new.height ≡ old.height
  pub pixels : (x y : ℕ) → x < old.width → y < old.height → open_at new x y ≡ (if in_box x0 x1 y0 y1 x y then unmasked else open_at old x y)

-- in a box the mask is the same as the test, or it is not at some pixel
abbrev pub IsAll : Field Bool → ℕ → ℕ → ℕ → ℕ → Bool → Type 0
IsAll mask x0 x1 y0 y1 unmasked = (x y : ℕ) → x0 ≤ x → x < x1 → y0 ≤ y → y < y1 → mask x y ≡ unmasked

abbrev pub HasOther : Field Bool → ℕ → ℕ → ℕ → ℕ → Bool → Type 0
HasOther mask x0 x1 y0 y1 unmasked = (x : ℕ) × (y : ℕ) × (x0 ≤ x) × (x < x1) × (y0 ≤ y) × (y < y1) × (mask x y ≢ unmasked)

-- the part has exactly the pixels of the box that lie in the tile
pub record IsPartOf (tiling : Tiling) (r : Rect) (tile : ℕ) (part : Rect) : Type 0 where
  pub inside : IsRectIn tiling.width tiling.height part
  pub pixels : (x y : ℕ) → x < tiling.width → y < tiling.height → has_pixel part x y ≡ (has_pixel r x y && (tile_at tiling x y == tile))

-- a mask with an edit applied in the tiles before tile t
abbrev pub edited_before : Tiling → ℕ → Edit → Field Bool → Field Bool
edited_before tiling tile edit mask x y = if has_pixel (rect_of edit) x y && nat_lt (tile_at tiling x y) tile then opens edit else mask x y

-- the tiles that a box meets, by rows: how many lie side by side, how many there are, and the number of the k-th
abbrev pub met_across : Tiling → Rect → ℕ
met_across tiling rect = rect.x1 / tiling.side - rect.x0 / tiling.side + 1

abbrev pub count_met : Tiling → Rect → ℕ
count_met tiling rect = (rect.y1 / tiling.side - rect.y0 / tiling.side + 1) * met_across tiling rect

abbrev pub met_tile : Tiling → Rect → ℕ → ℕ
met_tile tiling rect k = (rect.y0 / tiling.side + k / met_across tiling rect) * columns_of_tiles tiling + (rect.x0 / tiling.side + k % met_across tiling rect)

-- the list has those of the first k of them that pass a test, in order
pub record AreListedTiles (tiling : Tiling) (rect : Rect) (p : ℕ → Bool) (k : ℕ) (tiles : List ℕ) : Type 0 where
  pub rising : (i j : ℕ) → i < j → j < length tiles → slice_index tiles i < slice_index tiles j
  pub each : (i : ℕ) → i < length tiles → (j : ℕ) × (j < k) × (slice_index tiles i ≡ met_tile tiling rect j) × IsTrue (p (met_tile tiling rect j))
  pub all : (j : ℕ) → j < k → IsTrue (p (met_tile tiling rect j)) → (i : ℕ) × (i < length tiles) × (slice_index tiles i ≡ met_tile tiling rect j)

-- the test that every tile passes
abbrev pub any_tile : ℕ → Bool
any_tile tile = Bool.true

-- the first n tiles of a list have a new stamp, and the stamps of the others are as they were
pub record AreStamped (old new tiles : List ℕ) (n stamp : ℕ) : Type 0 where
  pub stamped : (i : ℕ) → i < n → slice_index new (slice_index tiles i) ≡ stamp
  pub others : (t : ℕ) → ((i : ℕ) → i < n → slice_index tiles i ≢ t) → slice_index new t ≡ slice_index old t
