-- The cost of a tile, and the sum of that by which its faces differ too much, as double loops over its window add them up, for any tiles.
use Rattle.std.proofs.Common.{◌≡◌, ℕ, ◌+◌, ◌<◌, ◌∙◌}
use Rattle.std.specs.Prelude.{ℤ, pos, ◌+ℤ◌, Bool, nat_lt}
use Rattle.raster_model.specs.declared.edge.Edge.{Edge}
use Rattle.raster_model.specs.declared.tiling.Window.{Window}
use Rattle.raster_model.specs.Sums.{Field, right_edge, down_edge, sum_grid}
use Rattle.raster_model.specs.Raster.{Raster, edge_cost, cost_from, masked_weight, over, tile_cost}
use Rattle.raster_model.specs.Certificates.{face_difference, face_over_from, face_over_total, faces_of_tile}
use Rattle.raster_model.specs.Tiles.{IsWithin, IsTileWindow}
use Rattle.raster_model.proofs.WindowSums.{inner_from_is, inner_from-outside, row_starts as starts, row_ends as ends, rows_start as start, rows_end}
use Rattle.sums_and_lists.specs.Sums.{where_true, sum_below}

module _ (r : Raster) (mask : Field Bool) (S : Field ℤ) (tile : ℕ) (v : Window) (is : IsTileWindow r tile v) where
  pub cost_from_is : (x y : ℕ) → IsWithin v x y → cost_from r mask tile S x y ≡ where_true (nat_lt x v.x1) (edge_cost r mask S (right_edge x y)) +ℤ where_true (nat_lt y v.y1) (edge_cost r mask S (down_edge x y))
  unfolding cost_from
  cost_from_is = inner_from_is r (edge_cost r mask S) tile v is

  pub cost_from-outside : (x y : ℕ) → x < r.width → y < r.height → (IsWithin v x y → ⊥) → cost_from r mask tile S x y ≡ pos 0
  unfolding cost_from
  cost_from-outside = inner_from-outside r (edge_cost r mask S) tile v is

  pub row_starts : (y : ℕ) → y < r.height → sum_below v.x0 (λ x. cost_from r mask tile S x y) ≡ pos 0
  unfolding cost_from
  row_starts = starts r (edge_cost r mask S) tile v is

  pub row_ends : (y : ℕ) → y < r.height → sum_below r.width (λ x. cost_from r mask tile S x y) ≡ sum_below (v.x1 + 1) (λ x. cost_from r mask tile S x y)
  unfolding cost_from
  row_ends = ends r (edge_cost r mask S) tile v is

  pub rows_start : sum_grid r.width v.y0 (cost_from r mask tile S) ≡ pos 0
  unfolding cost_from
  rows_start = start r (edge_cost r mask S) tile v is

  pub total : (y a : ℕ) → y ≡ v.y1 + 1 → pos a ≡ sum_grid r.width y (cost_from r mask tile S) → pos a ≡ tile_cost r mask tile S
  unfolding tile_cost cost_from
  total y a e p = (rw e at p) ∙ rows_end r (edge_cost r mask S) tile v is

-- the same for the faces
module _ (r : Raster) (mask : Field Bool) (f : Field ℤ) (tile : ℕ) (v : Window) (is : IsTileWindow r tile v) where
  -- by how much the faces on the two sides of an edge differ by more than its weight
  abbrev over_at : Edge → ℤ
  over_at e = pos (over (masked_weight r mask e) (face_difference (faces_of_tile r tile f) e))

  pub over_from_is : (x y : ℕ) → IsWithin v x y → face_over_from r mask tile f x y ≡ where_true (nat_lt x v.x1) (pos (over (masked_weight r mask (right_edge x y)) (face_difference (faces_of_tile r tile f) (right_edge x y)))) +ℤ where_true (nat_lt y v.y1) (pos (over (masked_weight r mask (down_edge x y)) (face_difference (faces_of_tile r tile f) (down_edge x y))))
  unfolding face_over_from
  over_from_is = inner_from_is r over_at tile v is

  pub over_row_starts : (y : ℕ) → y < r.height → sum_below v.x0 (λ x. face_over_from r mask tile f x y) ≡ pos 0
  unfolding face_over_from
  over_row_starts = starts r over_at tile v is

  pub over_row_ends : (y : ℕ) → y < r.height → sum_below r.width (λ x. face_over_from r mask tile f x y) ≡ sum_below (v.x1 + 1) (λ x. face_over_from r mask tile f x y)
  unfolding face_over_from
  over_row_ends = ends r over_at tile v is

  pub over_rows_start : sum_grid r.width v.y0 (face_over_from r mask tile f) ≡ pos 0
  unfolding face_over_from
  over_rows_start = start r over_at tile v is

  pub over_total : (y a : ℕ) → y ≡ v.y1 + 1 → pos a ≡ sum_grid r.width y (face_over_from r mask tile f) → pos a ≡ face_over_total r mask tile f
  unfolding face_over_total face_over_from
  over_total y a e p = (rw e at p) ∙ rows_end r over_at tile v is
