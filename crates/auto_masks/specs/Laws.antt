-- Laws of screening, once and twice with the same terms. A patch of 0 or 1 is no rule, since a patch has one pixel at least.
use Rattle.std.specs.Prelude.{◌≡◌, ◌⊎◌, ℕ, ◌<◌, ◌≤◌, Bool, false, IsTrue}
use Rattle.raster_model.specs.declared.plane.Plane.{Plane}
use Rattle.raster_model.specs.MaskView.{MaskView}
use Rattle.raster_model.specs.Masks.{IsMaskOf, all_open, open_at}
use Rattle.raster_model.specs.Sums.{Field}
use Rattle.auto_masks.specs.declared.terms.ScreenTerms.{ScreenTerms}
use Rattle.auto_masks.specs.Screened.{IsScreened, passes}

-- whatever the terms, a pixel that screening leaves open was open before, and it passes
abbrev pub OnlyPassingPixelsStay : Type 0
OnlyPassingPixelsStay = (terms : ScreenTerms) (weights : Plane) (clear : Field Bool) (view : MaskView) (x y : ℕ) → x < weights.width → y < weights.height → IsScreened terms weights clear view → IsTrue (open_at view x y) → IsTrue (clear x y) × IsTrue (passes terms weights clear x y)

-- without a patch rule each pixel that passes stays open
abbrev pub AllPassingPixelsStay : Type 0
AllPassingPixelsStay = (terms : ScreenTerms) (weights : Plane) (clear : Field Bool) (view : MaskView) → terms.patch ≤ 1 → IsScreened terms weights clear view → IsMaskOf view weights.width weights.height (passes terms weights clear)

-- without a patch rule screening twice leaves the pixels that pass under the first mask that it makes
abbrev pub TwiceKeepsWhatPasses : Type 0
TwiceKeepsWhatPasses = (terms : ScreenTerms) (weights : Plane) (clear : Field Bool) (once twice : MaskView) → terms.patch ≤ 1 → IsScreened terms weights clear once → IsScreened terms weights (open_at once) twice → IsMaskOf twice weights.width weights.height (passes terms weights (open_at once))

-- these are all its pixels if a pixel needs at most one strong pixel near it besides itself, or none can be near
abbrev pub TwiceIsOnce : Type 0
TwiceIsOnce = (terms : ScreenTerms) (weights : Plane) (clear : Field Bool) (once twice : MaskView) → terms.patch ≤ 1 → (terms.count ≤ 2) ⊎ (terms.radius ≡ 0) → IsScreened terms weights clear once → IsScreened terms weights (open_at once) twice → IsMaskOf twice weights.width weights.height (open_at once)

-- terms by which a pixel of any weight needs three open pixels within one column and one row
abbrev pub three_near : ScreenTerms
three_near = record { weight = 0; radius = 1; count = 3; patch = 0 }

-- with greater counts they may be fewer: of three open pixels in a row the one in the middle has three near it, and stays alone; then it has one, and is masked
abbrev pub TwiceCanBeLess : Type 0
TwiceCanBeLess = (weights : Plane) (once twice : MaskView) → weights.width ≡ 3 → weights.height ≡ 1 → IsScreened three_near weights all_open once → IsScreened three_near weights (open_at once) twice → IsTrue (open_at once 1 0) × (open_at twice 1 0 ≡ false)
