-- A plane's size is one of a raster that may have tiles.
use Rattle.std.proofs.Common.{◌≤◌, ◌*◌, ℕ, arith}
use Rattle.std.specs.Prelude.{IsTrue, ◌&&◌, nat_le}
use Rattle.std.proofs.lemmas.Bool.Decides.{nat_tests}
use Rattle.raster_model.specs.Limits.{is_tiled_size}
use Rattle.pgm_planes.specs.Planes.{IsSize}

pub size_fits : (w h : ℕ) → IsSize w h → IsTrue (is_tiled_size w h)
size_fits w h s = fits w h (w * h) s.across.0 s.across.1 s.along.0 s.along.1 s.pixels
  where
    fits : (w h n : ℕ) → 1 ≤ w → w ≤ 4096 → 1 ≤ h → h ≤ 4096 → n ≤ 4194304 → IsTrue (nat_le 1 w && nat_le w 4096 && nat_le 1 h && nat_le h 4096 && nat_le n 4194304)
    fits w h n a b c d e = grind (arith, nat_tests)
