-- The departure as code adds it up, at 64 bits.
use Rattle.std.proofs.Common.{◌≡◌, ℕ, ◌^◌, to_z, of_z, w32, w64, ◌≤◌, sym, arith}
use Rattle.std.specs.Prelude.{ℤ, ◌+ℤ◌, ◌-ℤ◌, unsigned_abs}
use Rattle.std.proofs.lemmas.Int.{ints}
use Rattle.raster_model.specs.declared.edge.Edge.{Edge}
use Rattle.raster_model.specs.Sums.{Field, end_x, end_y}
use Rattle.raster_model.specs.Raster.{Raster, departure, lifted, turns_of}
use Rattle.raster_model.proofs.Exact.{cycles_depart}

-- the code's sum
pub sum_fits : (u v t f : ℤ) → unsigned_abs u ≤ 2 ^ 48 → unsigned_abs v ≤ 2 ^ 48 → unsigned_abs t ≤ 1 → f ≡ to_z w32 (of_z w32 t) → to_z w64 (of_z w64 (to_z w64 (of_z w64 (to_z w64 (of_z w64 v) -ℤ to_z w64 (of_z w64 u))) +ℤ to_z w64 (of_z w64 f))) ≡ v -ℤ u +ℤ t
sum_fits u v t f a b k e = omega (arith, ints)

-- the departure, from what the code reads
pub departure_at : (r : Raster) (c : Field ℤ) (e : Edge) (x y : ℕ) (u v t : ℤ) → x ≡ end_x e → y ≡ end_y e → u ≡ c e.x e.y → v ≡ c x y → t ≡ turns_of r e → v -ℤ u +ℤ t ≡ departure r (lifted r c) e
departure_at r c e x y u v t ex ey eu ev et = rw (eu, ev, et, ex, ey) (sym (cycles_depart r c e))
