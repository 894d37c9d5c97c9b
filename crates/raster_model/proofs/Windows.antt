-- The window of the whole raster, and the tiles of a scene's pixels.
use Rattle.std.proofs.Common.{◌≡◌, ℕ, ◌+◌, refl, arith}
use Rattle.raster_model.specs.declared.scene.Scene.{Scene}
use Rattle.raster_model.specs.declared.tiling.Window.{Window}
use Rattle.raster_model.specs.Raster.{Raster}
use Rattle.raster_model.specs.Scene.{raster_of}
use Rattle.raster_model.specs.Tiles.{IsTileWindow}
use Rattle.raster_model.proofs.TileLemmas.{tiles_are_numbered}
use Rattle.raster_model.specs.Tilings.{ScenesHaveTiles}
use Rattle.raster_model.specs.Whole.{whole_of}

pub whole_window : (r : Raster) (v : Window) → v.x0 ≡ 0 → v.y0 ≡ 0 → v.x1 + 1 ≡ r.width → v.y1 + 1 ≡ r.height → IsTileWindow (whole_of r) 0 v
whole_window r v left top right bottom = record {
  across = (omega (arith, left), omega (arith, right));
  along = (omega (arith, top), omega (arith, bottom));
  pixels = λ x y l m. (λ e. (omega (arith, left), omega (arith, l, right), omega (arith, top), omega (arith, m, bottom)), λ w. refl);
}

pub scenes_have_tiles : ScenesHaveTiles
scenes_have_tiles s x y l m = tiles_are_numbered s.tiling x y (omega (arith, l, s.same_width)) (omega (arith, m, s.same_height))
