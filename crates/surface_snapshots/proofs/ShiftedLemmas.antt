-- What the results and the offsets have at a pixel.
use Rattle.std.proofs.Common.{◌≡◌, ◌∙◌, ℕ, ◌-◌, ◌*◌, ◌<◌, ◌≤◌, ap, sym, subst, refl, arith, to_z, of_z, w32, w64, List, length}
use Rattle.std.specs.Prelude.{ℤ, Bool, true, false, ◌==◌, ◌&&◌, IsTrue, if◌then◌else◌, nat_lt, slice_get, None, Some, unsigned_abs}
use Rattle.std.proofs.lemmas.Int.{ints}
use Rattle.std.proofs.lemmas.Bool.Decides.{nat_tests}
use Rattle.std.proofs.lemmas.Nat.{mul-add-lt}
use Rattle.raster_model.specs.declared.scene.Scene.{Scene}
use Rattle.raster_model.specs.declared.tiling.Window.{Window}
use Rattle.raster_model.specs.MaskView.{MaskView}
use Rattle.raster_model.specs.Masks.{open_at}
use Rattle.raster_model.specs.Sums.{Field}
use Rattle.raster_model.specs.Tiles.{IsWindowOf, IsWithin, height_of, place_in, tile_at, tiles_of, width_of, window_of}
use Rattle.raster_model.proofs.TileLemmas.{tiles_are_numbered, window_of-pixels}
use Rattle.certificates.specs.declared.results.TileResult.{TileResult}
use Rattle.certificates.specs.Results.{listed_cycles, pixels_in}
use Rattle.seam_regions.specs.Regions.{AreRegionsOf, region_label}
use Rattle.seam_regions.specs.RegionsView.{RegionsView}
use Rattle.seam_regions.proofs.CallerLemmas.{regions_of_scene}
use Rattle.certificates.specs.TileSets.{solved_cycles}
use Rattle.surface_snapshots.specs.Parts.{AreGoodTiles}
use Rattle.surface_snapshots.specs.Loops.{GoTogether}

-- an open pixel's place and that it is open
pub open_pixel : (w h x y : ℕ) (o : Bool) → IsTrue (nat_lt x w && nat_lt y h && o) → (x < w) × (y < h) × IsTrue o
open_pixel w h x y o t = (grind (arith, nat_tests), grind (arith, nat_tests), last (nat_lt x w) (nat_lt y h) o t)
  where
    last : (a b c : Bool) → IsTrue (a && b && c) → IsTrue c
    last Bool.true Bool.true c t = t
    last Bool.true Bool.false c t = cc
    last Bool.false b c t = cc

pub pixel_on : (x y w h : ℕ) → x < w → y < h → IsTrue (nat_lt x w && nat_lt y h && true)
pixel_on x y w h l m = grind (arith, nat_tests)

pub place_in_window : (v : Window) (x y : ℕ) → IsWithin v x y → place_in v x y < pixels_in v
place_in_window v x y w = mul-add-lt (y - v.y0) (width_of v) (x - v.x0) (height_of v) (omega (arith, w)) (omega (arith, w))

pub place_small : (v : Window) (x y : ℕ) → IsWithin v x y → v.x1 < 4096 → v.y1 < 4096 → place_in v x y < 16777216
place_small v x y w l h =
    let below : place_in v x y < width_of v * 4096 = mul-add-lt (y - v.y0) (width_of v) (x - v.x0) 4096 (omega (arith, w, h)) (omega (arith, w)) in
    omega (arith, below, l)

-- the window of an open pixel's tile, as code finds it, has the tile's pixels, and so this one
module _ (s : Scene) (t : ℕ) (v : Window) (x y : ℕ) (o : Bool) (is : v ≡ window_of s.tiling t) (e : t ≡ tile_at s.tiling x y) (i : IsTrue (nat_lt x s.phase.width && nat_lt y s.phase.height && o)) where
  in_raster : (x < s.tiling.width) × (y < s.tiling.height)
  in_raster = let p = open_pixel s.phase.width s.phase.height x y o i in (omega (arith, p.0, s.same_width), omega (arith, p.1, s.same_height))

  pub window_told : IsWindowOf s.tiling t v
  window_told =
      let below : t < tiles_of s.tiling = subst (λ (n : ℕ). n < tiles_of s.tiling) (sym e) (tiles_are_numbered s.tiling x y in_raster.0 in_raster.1) in
      subst (IsWindowOf s.tiling t) (sym is) (window_of-pixels s.tiling t below)

  pub within_window : IsWithin v x y
  within_window = (window_told.pixels x y in_raster.0 in_raster.1).0 (sym e)

-- a small number of cycles at 64 bits
pub widened : (z f : ℤ) → unsigned_abs z ≤ 8388608 → f ≡ to_z w32 (of_z w32 z) → to_z w64 (of_z w64 f) ≡ z
widened z f s e = omega (arith, ints)

-- the result of a pixel's tile, as code finds it
module _ (s : Scene) (mask : Field Bool) (results : List TileResult) (tiles : AreGoodTiles s mask results) (x y t : ℕ) (k : TileResult) (v : Window) (of_tile : t ≡ tile_at s.tiling x y) (there : slice_get results t ≡ Some k) (of_window : v ≡ window_of s.tiling t) where
  same_window : window_of s.tiling k.tile ≡ v
  same_window = ap (window_of s.tiling) (tiles.each.own t k there) ∙ sym of_window

  pub place_is_in : IsWithin v x y → place_in v x y < length k.cycles.items
  place_is_in w = omega (arith, place_in_window v x y w, (tiles.good t k there).shape.0 ∙ ap pixels_in same_window)

  pub solved_is : listed_cycles v k.cycles.items x y ≡ solved_cycles s results x y
  unfolding solved_cycles
  solved_is = rw (← of_tile, there, same_window) refl

  pub solved_is_small : IsWithin v x y → IsTrue (mask x y) → unsigned_abs (listed_cycles v k.cycles.items x y) ≤ 8388608
  solved_is_small w o = subst (λ (u : Window). IsWithin u x y → unsigned_abs (listed_cycles u k.cycles.items x y) ≤ 8388608) same_window (λ i. (tiles.good t k there).in_range x y (i, o)) w

-- a label below the number of regions is none of a masked pixel
told_open : (n : ℕ) (clear : Bool) → n < 4294967295 → (if n == 4294967295 then None else Some n) ≡ (if clear then Some n else None) → IsTrue clear
told_open n true l e = refl
told_open n false l e =
    let f : (n == 4294967295) ≡ false = grind (arith, nat_tests) in
    let g = rw f at e in
    cc

-- the open pixels are those whose label is a region's number
module _ (s : Scene) (m : MaskView) (v : RegionsView) (across : m.width ≡ s.phase.width) (along : m.height ≡ s.phase.height) (is : AreRegionsOf s.tiling m v) where
  module _ (x y : ℕ) (l : x < s.phase.width) (h : y < s.phase.height) where
    pub label_below : IsTrue (open_at m x y) → region_label v x y < v.count
    label_below o = (regions_of_scene s m v is).labelling.below x y (l, h, o)

    pub label_open : region_label v x y < v.count → IsTrue (open_at m x y)
    label_open below =
        told_open (region_label v x y) (open_at m x y) (omega (arith, below, is.few)) (is.told x y (omega (arith, l, s.same_width)) (omega (arith, h, s.same_height)))

  -- parts that fit together
  pub go_together : (results : List TileResult) → AreGoodTiles s (open_at m) results → GoTogether s m v results
  go_together results tiles = record {
    across = across;
    along = along;
    tiles = tiles;
    wide = is.width ∙ s.same_width.1;
    high = is.height ∙ s.same_height.1;
    below = label_below;
    told = label_open;
  }
