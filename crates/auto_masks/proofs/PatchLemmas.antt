-- The numbers of the trees are the patches of the keys.
use Rattle.std.proofs.Common.{◌≡◌, ℕ, ◌*◌, ◌<◌, ◌≤◌, refl, arith, List, length}
use Rattle.std.specs.Prelude.{ℤ, slice_index}
use Rattle.raster_model.specs.Sums.{Field}
use Rattle.joined_cells.proofs.RegionLemmas.{are_regions, label_at_place, label_fits, label_told}
use Rattle.joined_cells.specs.Flood.{IsNumbered}
use Rattle.auto_masks.specs.Flood.{keys_joined}
use Rattle.auto_masks.specs.Patches.{ArePatchesOf, is_keyed, keyed}

module _ (w h : ℕ) (K : Field ℤ) (labels : List ℕ) (count : ℕ) (wide : 0 < w) (few : count ≤ h * w) (limit : w * h ≤ 268435456) (is : IsNumbered (keys_joined w h K) (h * w) count labels) where
  pub patches_are : ArePatchesOf w h K (record { width = w; height = h; labels = labels; count = count })
  patches_are = record {
    width = refl;
    height = refl;
    full = is.size;
    patches = are_regions (keyed w h K) (is_keyed K) labels count wide is;
    told = label_told (keys_joined w h K) labels count wide is (omega (arith, few, limit));
    few = omega (arith, few);
  }

  -- each patch has a pixel
  pub has_pixel : (n : ℕ) → n < count → (i : ℕ) × (i < length labels) × (slice_index labels i ≡ n)
  has_pixel n l =
      let u = label_at_place (keys_joined w h K) labels count wide is n l in
      (u.0, omega (arith, u.1, is.size), u.2)

  -- a label that is one is below the count
  pub label_of_patch : (i : ℕ) → i < length labels → slice_index labels i < 4294967295 → slice_index labels i < count
  label_of_patch i m l = label_fits (keys_joined w h K) labels count wide is i (omega (arith, m, is.size)) l
