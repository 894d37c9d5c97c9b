-- The cycles of the result of a pixel's tile.
use Rattle.std.proofs.Common.{◌≡◌, ℕ, ◌+◌, ◌-◌, ◌*◌, ◌<◌, ◌≤◌, ◌∙◌, ap, sym, subst, refl, arith, Bool, length, to_z, of_z, w32, FitsSigned}
use Rattle.std.specs.Prelude.{ℤ, ◌+ℤ◌, ◌-ℤ◌, ◌&&◌, nat_lt, IsTrue, Some, slice_get, unsigned_abs}
use Rattle.std.proofs.lemmas.Int.{ints}
use Rattle.std.proofs.lemmas.Nat.{mul-add-lt}
use Rattle.std.proofs.lemmas.Bool.Decides.{nat_tests}
use Rattle.raster_model.specs.declared.scene.Scene.{Scene}
use Rattle.raster_model.specs.declared.tiling.Window.{Window}
use Rattle.raster_model.specs.declared.edge.Edge.{Edge}
use Rattle.raster_model.specs.Raster.{Raster, cycle_departure, turns_of}
use Rattle.raster_model.specs.Sums.{Field, end_x, end_y}
use Rattle.raster_model.specs.Tiles.{IsWithin, tile_at, window_of}
use Rattle.certificates.specs.declared.results.TileResult.{TileResult}
use Rattle.certificates.specs.Results.{IsGoodTile, listed_cycles, pixels_in, window_in}
use Rattle.certificates.specs.TileSets.{TileSetView, solved_cycles}
use Rattle.offset_network.specs.declared.places.Spot.{Spot}
use Rattle.offset_network.specs.Places.{IsSpotOf}
use Rattle.offset_network.specs.Surfaces.{IsGoodTileSet}

pub open_tells : (w h x y : ℕ) (b : Bool) → IsTrue ((nat_lt x w && nat_lt y h) && b) → (x < w) × (y < h) × IsTrue b
open_tells w h x y b t = (grind (arith, nat_tests), grind (arith, nat_tests), grind (arith, nat_tests))

-- a pixel, and the result k of its tile
module _ (s : Scene) (mask : Field Bool) (tiles : TileSetView) (good : IsGoodTileSet s mask tiles) (x y : ℕ) (l : x < s.phase.width) (m : y < s.phase.height) (spot : Spot) (k : TileResult) (is : IsSpotOf s.tiling x y spot) (place : slice_get tiles.results spot.tile ≡ Some k) (number : k.tile ≡ spot.tile) where
  abbrev v : Window
  v = spot.window

  is_good : IsGoodTile s mask k
  is_good = good.each spot.tile k is.exists place

  same_window : window_in s k ≡ v
  same_window = ap (window_of s.tiling) number ∙ sym is.window_is

  within : IsWithin v x y
  within = (is.pixels.pixels x y (omega (arith, l, s.same_width)) (omega (arith, m, s.same_height))).0 (sym is.here)

  pub place_below : (y - v.y0) * (v.x1 - v.x0 + 1) + (x - v.x0) < length k.cycles.items
  place_below =
      let all : length k.cycles.items ≡ pixels_in v = is_good.shape.0 ∙ ap pixels_in same_window in
      let p = mul-add-lt (y - v.y0) (v.x1 - v.x0 + 1) (x - v.x0) (v.y1 - v.y0 + 1) (omega (arith, within)) (omega (arith, within)) in
      omega (arith, all, p)

  pub cycles_are : listed_cycles v k.cycles.items x y ≡ solved_cycles s tiles.results x y
  unfolding solved_cycles
  cycles_are =
      let at : slice_get tiles.results (tile_at s.tiling x y) ≡ Some k = ap (slice_get tiles.results) (sym is.here) ∙ place in
      rw (at, same_window) refl

  pub cycles_small : IsTrue (mask x y) → unsigned_abs (listed_cycles v k.cycles.items x y) ≤ 8388608
  cycles_small o =
      let small = subst (λ (u : Window). IsWithin u x y × IsTrue (mask x y) → unsigned_abs (listed_cycles u k.cycles.items x y) ≤ 8388608) same_window (is_good.in_range x y) in
      small (within, o)

-- such cycles in code at 32 bits
pub cycles_fit : (z c : ℤ) → z ≡ c → unsigned_abs c ≤ 8388608 → to_z w32 (of_z w32 z) ≡ c
cycles_fit z c e l = omega (arith, ints, e, l)

-- and a departure
abbrev rise_in_code : ℤ → ℤ → ℤ → ℤ
rise_in_code u v t = to_z w32 (of_z w32 (to_z w32 (of_z w32 v) -ℤ to_z w32 (of_z w32 u))) +ℤ to_z w32 (of_z w32 t)

pub rise_fits : (u v t : ℤ) → unsigned_abs u ≤ 8388608 → unsigned_abs v ≤ 8388608 → unsigned_abs t ≤ 1 → FitsSigned w32 (rise_in_code u v t)
rise_fits u v t a b k = omega (arith, ints, a, b, k)

pub rise_value : (u v t : ℤ) → unsigned_abs u ≤ 8388608 → unsigned_abs v ≤ 8388608 → unsigned_abs t ≤ 1 → (to_z w32 (of_z w32 (rise_in_code u v t)) ≡ v -ℤ u +ℤ t) × (unsigned_abs (v -ℤ u +ℤ t) ≤ 16777217)
rise_value u v t a b k = (omega (arith, ints, a, b, k), omega (arith, ints, a, b, k))

pub rise_is : (r : Raster) (c : Field ℤ) (e : Edge) (x y : ℕ) (u v t : ℤ) → x ≡ end_x e → y ≡ end_y e → u ≡ c e.x e.y → v ≡ c x y → t ≡ turns_of r e → v -ℤ u +ℤ t ≡ cycle_departure r c e
rise_is r c e x y u v t ex ey eu ev et = rw (eu, ev, et, ex, ey) refl
