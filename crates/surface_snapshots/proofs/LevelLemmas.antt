-- The window of a tile along the row of one of its pixels, and lists of cycles: what is read of them.
use Rattle.std.proofs.Common.{◌≡◌, ℕ, ◌+◌, ◌<◌, ◌≤◌, ◌^◌, sym, subst, arith}
use Rattle.std.specs.Prelude.{IsTrue, unsigned_abs}
use Rattle.std.proofs.lemmas.Int.{ints}
use Rattle.raster_model.specs.declared.tiling.Tiling.{Tiling}
use Rattle.raster_model.specs.Tiles.{IsWindowOf, tile_at, tiles_of, window_of}
use Rattle.raster_model.proofs.TileLemmas.{tiles_are_numbered, window_of-pixels}
use Rattle.surface_snapshots.specs.declared.shifted.ShiftedTiles.{ShiftedTiles}
use Rattle.surface_snapshots.specs.Tiled.{regions_in}
use Rattle.surface_snapshots.specs.Shifted.{cycles_under, open_under}
use Rattle.surface_snapshots.proofs.CallerLemmas.{offset_small, solved_small}

-- the window of a pixel's tile, along the pixel's row
module _ (g : Tiling) (x y t : ℕ) (across : x < g.width) (along : y < g.height) (of_tile : t ≡ tile_at g x y) where
  pub its_window : IsWindowOf g t (window_of g t)
  its_window = window_of-pixels g t (subst (λ (n : ℕ). n < tiles_of g) (sym of_tile) (tiles_are_numbered g x y across along))

  pub row_reaches : (x ≤ (window_of g t).x1) × ((window_of g t).x1 < g.width)
  row_reaches = (((its_window.pixels x y across along).0 (sym of_tile)).1, its_window.across.1)

  pub same_tile : (c : ℕ) → x ≤ c → c ≤ (window_of g t).x1 → t ≡ tile_at g c y
  same_tile c from upto =
      let w = (its_window.pixels x y across along).0 (sym of_tile) in
      sym ((its_window.pixels c y (omega (arith, row_reaches, upto)) along).1 (omega (arith, w.0, from), upto, w.2, w.3))

module _ (s : ShiftedTiles) (x y : ℕ) where
  pub small_there : x < s.scene.now.phase.width → y < s.scene.now.phase.height → IsTrue (open_under s x y) → unsigned_abs (cycles_under s x y) ≤ 2 ^ 46 + 8388608
  small_there l m o =
      omega (arith, ints, solved_small s.scene.now (open_under s) s.tiles.now.results s.together.tiles x y l m o, offset_small (regions_in s.regions.now) s.offsets.now s.near x y)
