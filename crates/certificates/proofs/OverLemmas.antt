-- By how much faces that fit differ by more than the weights, as code adds it up.
use Rattle.std.proofs.Common.{◌≡◌, ℕ, ◌+◌, ◌*◌, ◌≤◌, ◌<◌, arith, refl, of_z, to_z, List}
use Rattle.std.specs.Int.{w128}
use Rattle.std.specs.Prelude.{ℤ, pos, nat_lt, unsigned_abs}
use Rattle.std.proofs.lemmas.Int.{ints}
use Rattle.raster_model.specs.Sums.{right_edge, down_edge}
use Rattle.raster_model.specs.Raster.{masked_weight, over}
use Rattle.raster_model.specs.Tiles.{IsWithin}
use Rattle.raster_model.specs.Cells.{face_at}
use Rattle.raster_model.proofs.WindowCosts.{over_from_is}
use Rattle.certificates.specs.declared.tile.Tile.{Tile}
use Rattle.certificates.specs.TileWords.{FitAt, FitIn, difference_at, held_mask, held_raster, over_at}
use Rattle.certificates.proofs.SeamLemmas.{limit_small}
use Rattle.certificates.proofs.TileParts.{is_inner}
use Rattle.sums_and_lists.specs.Sums.{where_true}

-- the size of a difference that fits, as code reads it at 128 bits
pub size_small : (d : ℤ) (n q w v : ℕ) → n ≡ unsigned_abs (to_z w128 (of_z w128 d)) → unsigned_abs d ≤ q * w → v ≡ w → v < 65536 → q ≤ 16 → n ≤ 1048560
size_small d n q w v e l f m k =
    let s = limit_small q w (unsigned_abs d) k (omega (arith, f, m)) l in
    rw e (as_read d s)
  where
    as_read : (d : ℤ) → unsigned_abs d ≤ 1048560 → unsigned_abs (to_z w128 (of_z w128 d)) ≤ 1048560
    as_read d s = omega (arith, ints)

module _ (k : Tile) (faces : List ℤ) (x y : ℕ) (w : IsWithin k.window x y) where
  -- both edges that start at a pixel
  pub right_fit : FitIn k faces y → x < k.window.x1 → FitAt k faces (right_edge x y)
  right_fit fit l = fit (right_edge x y) (is_inner k (right_edge x y) w (omega (arith, l)) w.3) refl

  pub lower_fit : FitIn k faces y → y < k.window.y1 → FitAt k faces (down_edge x y)
  lower_fit fit l = fit (down_edge x y) (is_inner k (down_edge x y) w w.1 (omega (arith, l))) refl

  pub both_over : (a b : ℕ) → pos a ≡ where_true (nat_lt x k.window.x1) (pos (over (masked_weight (held_raster k) (held_mask k) (right_edge x y)) (difference_at k faces (right_edge x y))))
      → pos b ≡ where_true (nat_lt y k.window.y1) (pos (over (masked_weight (held_raster k) (held_mask k) (down_edge x y)) (difference_at k faces (down_edge x y)))) → pos (a + b) ≡ over_at k faces x y
  both_over a b p q = omega (arith, ints, over_from_is (held_raster k) (held_mask k) (face_at (held_raster k) k.number faces) k.number k.window k.pixels x y w, p, q)
