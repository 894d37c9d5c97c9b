-- Which pixels of a mask are open.
use Rattle.std.specs.Prelude.{◌≡◌, ◌≢◌, ◌⊎◌, ℕ, ◌+◌, ◌*◌, ◌<◌, ◌≤◌, Bool, true, not, ◌==◌, slice_index_or}
use Rattle.raster_model.specs.declared.plane.Plane.{Plane}
use Rattle.raster_model.specs.MaskView.{MaskView}
use Rattle.raster_model.specs.Sums.{Field}
use Rattle.raster_model.specs.Planes.{plane_sample}

-- whether a pixel is open
abbrev pub open_at : MaskView → Field Bool
open_at view x y = slice_index_or view.unmasked (y * view.width + x) Bool.false

-- the mask has this size, and at each of its pixels it is open where the test holds
pub record IsMaskOf (view : MaskView) (w h : ℕ) (clear : Field Bool) : Type 0 where
  pub width : view.width ≡ w
  pub height : view.height ≡ h
  pub clear_at : (x y : ℕ) → x < w → y < h → open_at view x y ≡ clear x y

-- every pixel is open; the pixels are open where a mask plane's sample is not 0
abbrev pub all_open : Field Bool
all_open x y = true

abbrev pub open_by : Plane → Field Bool
open_by plane x y = not (plane_sample plane x y == 0)

-- the new mask is the old one but for the pixel (x, y), where it is open exactly if the test says so
pub record IsSetAt (old new : MaskView) (x y : ℕ) (unmasked : Bool) : Type 0 where
  pub width : new.width ≡ old.width
  pub height : new.height ≡ old.height
  pub here : open_at new x y ≡ unmasked
  pub elsewhere : (a b : ℕ) → a < old.width → b < old.height → (a ≢ x) ⊎ (b ≢ y) → open_at new a b ≡ open_at old a b

-- the new mask is the old one but for the pixels of row y from x0 to x1, which are open exactly if the test says so
pub record IsSpanSet (old new : MaskView) (y x0 x1 : ℕ) (unmasked : Bool) : Type 0 where
  pub width : new.width ≡ old.width
  pub height : new.height ≡ old.height
  pub here : (x : ℕ) → x0 ≤ x → x ≤ x1 → open_at new x y ≡ unmasked
  pub elsewhere : (a b : ℕ) → a < old.width → b < old.height → (b ≢ y) ⊎ ((a < x0) ⊎ (x1 < a)) → open_at new a b ≡ open_at old a b

-- in row y each pixel from x0 to x1 is as the test says; one is not
abbrev pub IsSpanOf : MaskView → ℕ → ℕ → ℕ → Bool → Type 0
IsSpanOf view y x0 x1 unmasked = (x : ℕ) → x0 ≤ x → x ≤ x1 → open_at view x y ≡ unmasked

abbrev pub HasOtherInSpan : MaskView → ℕ → ℕ → ℕ → Bool → Type 0
HasOtherInSpan view y x0 x1 unmasked = (x : ℕ) × (x0 ≤ x) × (x ≤ x1) × (open_at view x y ≢ unmasked)
