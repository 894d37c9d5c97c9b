-- First masks that drop weak pixels, pixels with few strong ones near them, and small islands.
use Rattle.std.specs.Prelude.{ℕ, ◌+◌, ◌≤◌, nat_le, ℤ, pos, Bool, ◌&&◌, if◌then◌else◌}
use Rattle.raster_model.specs.declared.plane.Plane.{Plane}
use Rattle.raster_model.specs.Limits.{max_pixels}
use Rattle.raster_model.specs.MaskView.{MaskView}
use Rattle.raster_model.specs.Masks.{IsMaskOf}
use Rattle.raster_model.specs.Planes.{plane_sample}
use Rattle.raster_model.specs.Sums.{Field}
use Rattle.sums_and_lists.specs.Sums.{count_below, one_if}
use Rattle.auto_masks.specs.declared.terms.ScreenTerms.{ScreenTerms}
use Rattle.auto_masks.specs.PatchesView.{PatchesView}
use Rattle.auto_masks.specs.Patches.{ArePatchesOf, patch_label, patch_size}

-- the greatest radius, and the most pixels that lie so near to a pixel: (2 * 64 + 1) ^ 2
abbrev pub max_radius : ℕ
max_radius = 64

abbrev pub max_near : ℕ
max_near = 16641

-- the terms are within their ranges; a weight is within its own by its type
pub record AreScreenTerms (terms : ScreenTerms) : Type 0 where
  pub radius : terms.radius ≤ max_radius
  pub count : terms.count ≤ max_near
  pub patch : terms.patch ≤ max_pixels

-- a weight and a count of near strong pixels are enough
abbrev pub is_enough : ScreenTerms → ℕ → ℕ → Bool
is_enough terms weight count = nat_le terms.weight weight && nat_le terms.count count

-- two columns, or two rows, differ by at most r
abbrev pub is_close : ℕ → ℕ → ℕ → Bool
is_close r a b = nat_le a (b + r) && nat_le b (a + r)

-- a pixel is strong where it is open and its weight is at least that of the terms
abbrev pub is_strong : ScreenTerms → Plane → Field Bool → Field Bool
is_strong terms weights clear x y = clear x y && nat_le terms.weight (plane_sample weights x y)

-- how many pixels of a raster of w by h pixels pass a test
abbrev pub count_pixels : ℕ → ℕ → Field Bool → ℕ
count_pixels width height test = count_below height (λ y. count_below width (λ x. one_if (test x y)))

-- how many of these have a column and a row that differ from those of (x, y) by at most r each
abbrev pub near_pixels : ℕ → ℕ → ℕ → Field Bool → Field ℕ
near_pixels r width height test x y = count_pixels width height (λ a b. is_close r x a && is_close r y b && test a b)

-- how many strong pixels are near a pixel
abbrev pub near_count : ScreenTerms → Plane → Field Bool → Field ℕ
near_count terms weights clear = near_pixels terms.radius weights.width weights.height (is_strong terms weights clear)

-- a pixel passes where it is strong and enough strong pixels are near
abbrev pub passes : ScreenTerms → Plane → Field Bool → Field Bool
passes terms weights clear x y = is_strong terms weights clear x y && nat_le terms.count (near_count terms weights clear x y)

-- the passing pixels have the key 1, and the others 0
abbrev pub passing_keys : ScreenTerms → Plane → Field Bool → Field ℤ
passing_keys terms weights clear x y = if passes terms weights clear x y then pos 1 else pos 0

-- a pixel passes and its patch among the passing pixels has enough of them
abbrev pub stays_open : ScreenTerms → Plane → Field Bool → PatchesView → Field Bool
stays_open terms weights clear v x y = passes terms weights clear x y && nat_le terms.patch (patch_size v (patch_label v x y))

-- the mask m is what screening makes of a mask whose open pixels are clear
pub record IsScreened (terms : ScreenTerms) (weights : Plane) (clear : Field Bool) (view : MaskView) : Type 0 where
  pub patches : PatchesView
  pub of_passing : ArePatchesOf weights.width weights.height (passing_keys terms weights clear) patches
  pub kept : IsMaskOf view weights.width weights.height (stays_open terms weights clear patches)
