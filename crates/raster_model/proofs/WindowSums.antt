-- A sum over the inner edges of a tile, as a double loop over its window adds it up.
use Rattle.std.proofs.Common.{◌≡◌, ℕ, ◌+◌, ◌<◌, sym, ap₂, arith}
use Rattle.std.specs.Prelude.{ℤ, pos, ◌+ℤ◌, Bool, ◌==◌, ◌&&◌, nat_lt}
use Rattle.std.proofs.lemmas.Bool.Decides.{nat_tests}
use Rattle.raster_model.specs.declared.edge.Edge.{Edge}
use Rattle.raster_model.specs.declared.tiling.Window.{Window}
use Rattle.raster_model.specs.Sums.{Field, right_edge, down_edge, edges_from, sum_edges, sum_grid}
use Rattle.raster_model.specs.Raster.{Raster, is_inner}
use Rattle.raster_model.specs.Tiles.{IsWithin, IsTileWindow}
use Rattle.sums_and_lists.specs.Sums.{where_true, sum_below}
use Rattle.sums_and_lists.proofs.SumLemmas.{sum_below-zeros, sum_below-upto}

-- ---- which edges of a tile start at a pixel
pub edge_in_tile : (W x x₁ t u v : ℕ) (z : ℤ) → u ≡ t → x₁ < W → (x < x₁ → v ≡ t) → (x + 1 < W → v ≡ t → x < x₁) → where_true (nat_lt (x + 1) W) (where_true ((u == t) && (v == t)) z) ≡ where_true (nat_lt x x₁) z
edge_in_tile W x x₁ t u v z e l p q = grind (arith, nat_tests)

no_edge : (k : Bool) (t u v : ℕ) (z : ℤ) → (u ≡ t → ⊥) → where_true k (where_true ((u == t) && (v == t)) z) ≡ pos 0
no_edge k t u v z n = grind (arith, nat_tests)

module _ (r : Raster) (F : Edge → ℤ) (tile : ℕ) (v : Window) (is : IsTileWindow r tile v) where
  -- what the tile's inner edges that start at a pixel add
  abbrev inner_from : Field ℤ
  inner_from = edges_from r.width r.height (λ e. where_true (is_inner r tile e) (F e))

  pub inner_from_is : (x y : ℕ) → IsWithin v x y → inner_from x y ≡ where_true (nat_lt x v.x1) (F (right_edge x y)) +ℤ where_true (nat_lt y v.y1) (F (down_edge x y))
  inner_from_is x y w =
      let across = is.across in
      let along = is.along in
      ap₂ (λ (a b : ℤ). a +ℤ b)
      (edge_in_tile r.width x v.x1 tile (r.tile x y) (r.tile (x + 1) y) (F (right_edge x y))
      ((is.pixels x y (omega arith) (omega arith)).1 w) (omega arith)
      (λ l. (is.pixels (x + 1) y (omega arith) (omega arith)).1 (omega arith))
      (λ l e. let k = (is.pixels (x + 1) y (omega arith) (omega arith)).0 e in omega arith))
      (edge_in_tile r.height y v.y1 tile (r.tile x y) (r.tile x (y + 1)) (F (down_edge x y))
      ((is.pixels x y (omega arith) (omega arith)).1 w) (omega arith)
      (λ l. (is.pixels x (y + 1) (omega arith) (omega arith)).1 (omega arith))
      (λ l e. let k = (is.pixels x (y + 1) (omega arith) (omega arith)).0 e in omega arith))

  pub inner_from-outside : (x y : ℕ) → x < r.width → y < r.height → (IsWithin v x y → ⊥) → inner_from x y ≡ pos 0
  inner_from-outside x y l m n =
      let out : r.tile x y ≡ tile → ⊥ = λ e. n ((is.pixels x y (omega (arith)) (omega (arith))).0 e) in
      ap₂ (λ (a b : ℤ). a +ℤ b)
      (no_edge (nat_lt (x + 1) r.width) tile (r.tile x y) (r.tile (x + 1) y) (F (right_edge x y)) out)
      (no_edge (nat_lt (y + 1) r.height) tile (r.tile x y) (r.tile x (y + 1)) (F (down_edge x y)) out)

  -- the sums as the loops meet them
  pub row_starts : (y : ℕ) → y < r.height → sum_below v.x0 (λ x. inner_from x y) ≡ pos 0
  row_starts y m =
      sum_below-zeros v.x0 (λ x. inner_from x y) (λ x l. inner_from-outside x y (omega (arith, is.across)) m (λ w. omega (arith, w)))

  pub row_ends : (y : ℕ) → y < r.height → sum_below r.width (λ x. inner_from x y) ≡ sum_below (v.x1 + 1) (λ x. inner_from x y)
  row_ends y m =
      sum_below-upto (v.x1 + 1) r.width (λ x. inner_from x y) (omega (arith, is.across)) (λ x l n. inner_from-outside x y n m (λ w. omega (arith, w)))

  pub rows_start : sum_grid r.width v.y0 inner_from ≡ pos 0
  rows_start =
      sum_below-zeros v.y0 (λ y. sum_below r.width (λ x. inner_from x y)) (λ y l. sum_below-zeros r.width (λ x. inner_from x y) (λ x m. inner_from-outside x y m (omega (arith, is.along)) (λ w. omega (arith, w))))

  pub rows_end : sum_grid r.width (v.y1 + 1) inner_from ≡ sum_edges r.width r.height (λ e. where_true (is_inner r tile e) (F e))
  rows_end =
      sym (sum_below-upto (v.y1 + 1) r.height (λ y. sum_below r.width (λ x. inner_from x y)) (omega (arith, is.along))
      (λ y l n. sum_below-zeros r.width (λ x. inner_from x y) (λ x m. inner_from-outside x y m n (λ w. omega (arith, w)))))
