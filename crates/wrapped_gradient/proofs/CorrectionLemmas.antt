-- The greatest absolute correction.
use Rattle.std.proofs.Common.{ℕ, zero, suc, ◌+◌, ◌-◌, ◌*◌, ◌≤◌, arith, List, [], ◌∷◌}
use Rattle.std.specs.Prelude.{ℤ, pos, unsigned_abs, slice_index_or}
use Rattle.std.specs.Prelude.{Bool, true, false}
use Rattle.raster_model.specs.declared.edge.Edge.{Edge}
use Rattle.raster_model.specs.declared.tiling.Window.{Window}
use Rattle.wrapped_gradient.specs.declared.corrections.Corrections.{Corrections}
use Rattle.wrapped_gradient.specs.Corrections.{correction_at, greatest, greatest_of}
use Rattle.raster_model.specs.Tiles.{width_of}

-- no number of a list is greater
pub within_greatest : (zs : List ℤ) (i : ℕ) → unsigned_abs (slice_index_or zs i (pos 0)) ≤ greatest zs
unfolding greatest
within_greatest [] i = omega arith
within_greatest (z ∷ zs) zero = omega arith
within_greatest (z ∷ zs) (suc i) = let h = within_greatest zs i in omega (arith, h)

-- and where no number is greater than b, neither is the greatest
pub greatest_least : (zs : List ℤ) (b : ℕ) → ((i : ℕ) → unsigned_abs (slice_index_or zs i (pos 0)) ≤ b) → greatest zs ≤ b
unfolding greatest
greatest_least [] b h = omega arith
greatest_least (z ∷ zs) b h =
    let first : unsigned_abs z ≤ b = h zero in
    let rest = greatest_least zs b (λ i. h (suc i)) in
    omega (arith, first, rest)

pub correction_within : (v : Window) (k : Corrections) (e : Edge) → unsigned_abs (correction_at v k e) ≤ greatest_of k
correction_within v k e = go e.x e.y e.down
  where
    go : (x y : ℕ) (d : Bool) → unsigned_abs (correction_at v k (record { x = x; y = y; down = d })) ≤ greatest_of k
    go x y true = let h = within_greatest k.down.items ((y - v.y0) * width_of v + (x - v.x0)) in omega (arith, h)
    go x y false = let h = within_greatest k.right.items ((y - v.y0) * (width_of v - 1) + (x - v.x0)) in omega (arith, h)

pub greatest_of_least : (k : Corrections) (b : ℕ) → ((i : ℕ) → unsigned_abs (slice_index_or k.right.items i (pos 0)) ≤ b) → ((i : ℕ) → unsigned_abs (slice_index_or k.down.items i (pos 0)) ≤ b) → greatest_of k ≤ b
greatest_of_least k b r d =
    let p = greatest_least k.right.items b r in
    let q = greatest_least k.down.items b d in
    omega (arith, p, q)
