-- The edges of a tile, by its window, for loops of the crates above.
use Rattle.std.proofs.Common.{◌≡◌, ℕ, ◌<◌, arith}
use Rattle.std.specs.Prelude.{◌==◌, ◌&&◌, nat_lt, IsTrue}
use Rattle.std.proofs.lemmas.Bool.Decides.{nat_tests}
use Rattle.raster_model.specs.declared.edge.Edge.{Edge}
use Rattle.raster_model.specs.declared.tiling.Window.{Window}
use Rattle.raster_model.specs.Raster.{Raster}
use Rattle.raster_model.specs.Sums.{end_x, end_y}
use Rattle.raster_model.specs.Certificates.{IsTileEdge}
use Rattle.raster_model.specs.Tiles.{IsWithin, IsTileWindow}

edge_tells : (w h x y a b t u v : ℕ) → IsTrue ((nat_lt x w && nat_lt y h) && (nat_lt a w && nat_lt b h) && ((u == t) && (v == t))) → (x < w) × (y < h) × (a < w) × (b < h) × (u ≡ t) × (v ≡ t)
edge_tells w h x y a b t u v e = (grind (arith, nat_tests), grind (arith, nat_tests), grind (arith, nat_tests), grind (arith, nat_tests), grind (arith, nat_tests), grind (arith, nat_tests))

edge_from : (w h x y a b t u v : ℕ) → x < w → y < h → a < w → b < h → u ≡ t → v ≡ t → IsTrue ((nat_lt x w && nat_lt y h) && (nat_lt a w && nat_lt b h) && ((u == t) && (v == t)))
edge_from w h x y a b t u v p q r s e f = grind (arith, nat_tests)

module _ (r : Raster) (tile : ℕ) (v : Window) (is : IsTileWindow r tile v) where
  -- both ends of the tile's edges lie in its window
  pub ends_within : (e : Edge) → IsTileEdge r tile e → IsWithin v e.x e.y × IsWithin v (end_x e) (end_y e)
  ends_within e i =
      let t = edge_tells r.width r.height e.x e.y (end_x e) (end_y e) tile (r.tile e.x e.y) (r.tile (end_x e) (end_y e)) i in
      ((is.pixels e.x e.y (omega (arith, t)) (omega (arith, t))).0 t.4, (is.pixels (end_x e) (end_y e) (omega (arith, t)) (omega (arith, t))).0 t.5)

  pub from_ends : (e : Edge) → IsWithin v e.x e.y → IsWithin v (end_x e) (end_y e) → IsTileEdge r tile e
  from_ends e p q =
      edge_from r.width r.height e.x e.y (end_x e) (end_y e) tile (r.tile e.x e.y) (r.tile (end_x e) (end_y e))
      (omega (arith, p, is.across)) (omega (arith, p, is.along)) (omega (arith, q, is.across)) (omega (arith, q, is.along))
      ((is.pixels e.x e.y (omega (arith, p, is.across)) (omega (arith, p, is.along))).1 p) ((is.pixels (end_x e) (end_y e) (omega (arith, q, is.across)) (omega (arith, q, is.along))).1 q)
