-- What an edge adds to a cost, by whether its ends are open.
use Rattle.std.proofs.Common.{◌≡◌, ℕ, ◌*◌, ◌<◌, refl, arith, Bool, true, false}
use Rattle.std.specs.Prelude.{ℤ, pos, IsTrue, if◌then◌else◌}
use Rattle.raster_model.specs.declared.edge.Edge.{Edge}
use Rattle.raster_model.specs.Raster.{Raster, departure, edge_cost, has_open_ends, steps}
use Rattle.raster_model.specs.Sums.{Field, end_x, end_y, is_edge}
use Rattle.raster_model.proofs.Steps.{no_steps}
use Rattle.sums_and_lists.specs.Sums.{where_true}
use Rattle.sums_and_lists.proofs.Orders.{ends_in}

product_is : (t : Bool) (w d n : ℕ) → t ≡ true → n ≡ w * d → pos n ≡ where_true t (pos ((if t then w else 0) * d))
product_is t w d n o e = rw (o, e) refl

nothing_is : (t : Bool) (z : ℤ) → t ≡ false → pos 0 ≡ where_true t z
nothing_is t z o = rw o refl

module _ (r : Raster) (mask : Field Bool) (S : Field ℤ) (e : Edge) where
  pub open_is : (n : ℕ) → has_open_ends mask e ≡ true → n ≡ r.weight e * steps r.steep (departure r S e) → pos n ≡ edge_cost r mask S e
  open_is n o p = product_is (has_open_ends mask e) (r.weight e) (steps r.steep (departure r S e)) n o p

  pub masked_is : has_open_ends mask e ≡ false → pos 0 ≡ edge_cost r mask S e
  masked_is o = nothing_is (has_open_ends mask e) _ o

-- where the surface does not depart, the product is 0
pub no_departure : (w q : ℕ) (d : ℤ) → d ≡ pos 0 → 0 ≡ w * steps q d
no_departure w q d e = rw (no_steps q d e) (omega arith)

-- the ends of an edge in a raster, and as far as its sides go
pub ends_inside : (w h : ℕ) (e : Edge) → IsTrue (is_edge w h e) → (e.x < w) × (e.y < h) × (end_x e < w) × (end_y e < h)
ends_inside w h e i = ends_in e.x e.y w h (end_x e) (end_y e) i
