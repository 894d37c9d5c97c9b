-- A mask is told by its regions: a pixel is open exactly if its label is a region's number.
use Rattle.std.proofs.Common.{◌≡◌, ◌∙◌, ℕ, ◌+◌, ◌*◌, ◌/◌, ◌%◌, ◌<◌, ap, sym, refl, arith, inl, inr, Bool, true, false, List, length}
use Rattle.std.specs.Prelude.{ℤ, IsTrue, map, nat_lt, slice_index, slice_index_or}
use Rattle.std.proofs.lemmas.Bool.{cases_lt}
use Rattle.std.proofs.lemmas.List.{ext_get_or, get_or-map, length-map}
use Rattle.std.proofs.lemmas.Nat.{div-add-mod', mul-add-lt}
use Rattle.std.proofs.Math.Nat.{div-lt_iff_lt-mul, mod-lt}
use Rattle.raster_model.specs.declared.scene.Scene.{Scene}
use Rattle.raster_model.specs.MaskView.{MaskView}
use Rattle.raster_model.specs.Masks.{open_at}
use Rattle.raster_model.specs.declared.session.Session.{Session}
use Rattle.certificates.specs.declared.results.SeamResult.{SeamResult}
use Rattle.certificates.specs.TileSets.{TileSetView}
use Rattle.seam_regions.specs.Regions.{AreRegionsOf, region_label}
use Rattle.seam_regions.specs.RegionsView.{RegionsView}
use Rattle.sums_and_lists.proofs.Orders.{lt_is, not_lt_is}
use Rattle.surface_snapshots.specs.Kept.{parts_kept}
use Rattle.surface_snapshots.specs.Parts.{parts_from}
use Rattle.surface_snapshots.specs.Tiled.{mask_told, pixels_told}
use Rattle.surface_snapshots.proofs.ShiftedLemmas.{label_below, label_open}

-- a test that holds exactly where a number is below another
test_told : (n count : ℕ) (clear : Bool) → (IsTrue clear → n < count) → (n < count → IsTrue clear) → clear ≡ nat_lt n count
test_told n count true below told = sym (lt_is n count (below refl))
test_told n count false below told =
    elim (cases_lt n count) [ inl l ↦ told l ∙ sym (lt_is n count l) | inr m ↦ sym (not_lt_is n count m) ]

-- the tests of all pixels are told by their labels, if that of each is
module _ (w h count : ℕ) (tests : List Bool) (labels : List ℕ) (wide : 0 < w) (size : length tests ≡ w * h) (listed : length labels ≡ w * h)
    (told : (x y : ℕ) → x < w → y < h → slice_index_or tests (y * w + x) false ≡ nat_lt (slice_index labels (y * w + x)) count) where
  test_there : (i : ℕ) → i < w * h → slice_index_or tests i false ≡ nat_lt (slice_index labels i) count
  test_there i inside =
      let row : i / w < h = (div-lt_iff_lt-mul {k = w} {x = i} {y = h} wide).1 (omega (arith, inside)) in
      rw (div-add-mod' i w) at (told (i % w) (i / w) (mod-lt i wide) row)

  tests_told : tests ≡ pixels_told labels count
  unfolding pixels_told
  tests_told =
      let f = λ (l : ℕ). nat_lt l count in
      ext_get_or false tests (map f labels) (size ∙ sym listed ∙ sym (length-map labels f)) (λ i inside. (
      let below : i < w * h = omega (arith, inside, size) in
      test_there i below ∙ sym (get_or-map f labels i 0 false (omega (arith, below, listed)))))

pub mask_is_told : (s : Scene) (m : MaskView) (v : RegionsView) → m.width ≡ s.phase.width → m.height ≡ s.phase.height → AreRegionsOf s.tiling m v → length m.unmasked ≡ m.width * m.height → length v.labels ≡ v.width * v.height → m ≡ mask_told v
mask_is_told s m v across along is pixels listed =
    let w = s.phase.width in
    let h = s.phase.height in
    let wide : v.width ≡ w = is.width ∙ s.same_width.1 in
    let high : v.height ≡ h = is.height ∙ s.same_height.1 in
    let some : 0 < w = omega (arith, s.wide) in
    let told = tests_told w h v.count m.unmasked v.labels some (pixels ∙ rw (across, along) refl) (listed ∙ rw (wide, high) refl) (λ x y l k. rw (across, wide) at (test_told (region_label v x y) v.count (open_at m x y) (label_below s m v across along is x y l k) (label_open s m v across along is x y l k))) in
    ap (λ (n : ℕ). record { width = n; height = m.height; unmasked = m.unmasked }) (across ∙ sym wide)
    ∙ ap (λ (n : ℕ). record { width = v.width; height = n; unmasked = m.unmasked }) (along ∙ sym high)
    ∙ ap (λ (l : List Bool). record { width = v.width; height = v.height; unmasked = l }) told

-- what the mask that regions tell says of a pixel
pub open_by_label : (v : RegionsView) (x y : ℕ) → length v.labels ≡ v.width * v.height → x < v.width → y < v.height → open_at (mask_told v) x y ≡ nat_lt (region_label v x y) v.count
unfolding pixels_told
open_by_label v x y size across along =
    let inside : y * v.width + x < v.width * v.height = mul-add-lt y v.width x v.height along across in
    get_or-map (λ (l : ℕ). nat_lt l v.count) v.labels (y * v.width + x) 0 false (omega (arith, inside, size))

-- the parts that are kept are those that were given
pub parts_told : (session : Session) (m : MaskView) (v w : RegionsView) (tiles : TileSetView) (seams : SeamResult) (flows : List ℤ) → m ≡ mask_told v → w ≡ v → flows ≡ seams.flows.items → parts_kept session w tiles seams.revision seams.offsets.items flows ≡ parts_from session m v tiles seams
parts_told session m v w tiles seams flows told same kept =
    ap (λ (u : RegionsView). parts_kept session u tiles seams.revision seams.offsets.items flows) same
    ∙ ap (λ (l : List ℤ). parts_kept session v tiles seams.revision seams.offsets.items l) kept
    ∙ ap (λ (n : MaskView). parts_from session n v tiles seams) (sym told)
