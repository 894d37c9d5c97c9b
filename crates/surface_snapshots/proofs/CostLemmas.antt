-- The costs of tiles and of seams, as one pass over the edges adds them up; what all tiles cost together is the sum over the inner edges.
use Rattle.std.proofs.Common.{◌≡◌, ◌∙◌, ℕ, ◌+◌, ◌^◌, ◌<◌, ◌≤◌, sym, subst, ap, refl, arith, Bool, true, false, inl, inr}
use Rattle.std.specs.Prelude.{ℤ, pos, ◌+ℤ◌, if◌then◌else◌, ◌&&◌, ◌==◌, not, IsTrue, nat_lt}
use Rattle.std.proofs.lemmas.Int.{ints}
use Rattle.std.proofs.lemmas.Bool.{and_parts}
use Rattle.std.proofs.lemmas.Bool.Decides.{eqb_tells, nat_tests}
use Rattle.raster_model.specs.declared.edge.Edge.{Edge}
use Rattle.raster_model.specs.Heights.{KnowsEnds}
use Rattle.raster_model.specs.Sums.{Field, right_edge, down_edge, end_x, end_y, is_edge, sum_grid, sum_row}
use Rattle.raster_model.specs.MaskView.{MaskView}
use Rattle.raster_model.specs.Masks.{open_at}
use Rattle.raster_model.specs.Raster.{Raster, edge_cost, has_open_ends, inner_cost, seam_cost_from, seam_edge_cost, tile_cost}
use Rattle.raster_model.proofs.MaskAgrees.{edge_ends}
use Rattle.raster_model.proofs.SumLemmas.{sum_edges-below, sum_edges-same}
use Rattle.surface_snapshots.specs.declared.counting.Costs.{Costs}
use Rattle.surface_snapshots.specs.Parts.{tile_costs}
use Rattle.surface_snapshots.specs.Loops.{AreOfEdges, AreOfRows, AreOpenFrom, KnowsOpenRows, inner_cost_from, inner_edge_cost}
use Rattle.sums_and_lists.proofs.Tests.{one_test, apart}
use Rattle.sums_and_lists.specs.Sums.{sum_below, where_true}
use Rattle.sums_and_lists.proofs.SumLemmas.{no_number, sum_below-more, sum_below-none, sum_below-pick, sum_below-same, sum_below-zeros}

end_below : (y : ℕ) (down : Bool) → (y ≤ (if down then y + 1 else y)) × ((if down then y + 1 else y) ≤ y + 1)
end_below y true = (omega arith, omega arith)
end_below y false = (omega arith, omega arith)

-- where the open pixels of an edge's row and of the next one are known, its ends are, where they are open
pub ends_known : (r : Raster) (mask knows : Field Bool) (e : Edge) → KnowsOpenRows r mask knows e.y (e.y + 1) → IsTrue (is_edge r.width r.height e) → KnowsEnds mask knows e
ends_known r mask knows e known i o =
    let t = edge_ends r.width r.height e i in
    let ends = and_parts (mask e.x e.y) (mask (end_x e) (end_y e)) o in
    (known e.x e.y t.0 t.1 (omega arith) (omega arith) ends.0, known (end_x e) (end_y e) t.2 t.3 (end_below e.y e.down).0 (end_below e.y e.down).1 ends.1)

both_true : (a b : Bool) → IsTrue a → IsTrue b → IsTrue (a && b)
both_true a b p q = rw (p, q) refl

-- where the pixels of a row and of the next one are known to be open, so are the ends of a pixel's edges
module _ (m : MaskView) (x y : ℕ) (clear : AreOpenFrom m y x (x + 1)) where
  pub right_open : x + 1 < m.width → y < m.height → IsTrue (has_open_ends (open_at m) (right_edge x y))
  right_open l k =
      both_true (open_at m x y) (open_at m (x + 1) y) (clear x y (omega (arith, l)) k (omega arith) (omega arith) (omega arith) (omega arith)) (clear (x + 1) y l k (omega arith) (omega arith) (omega arith) (omega arith))

  pub lower_open : x < m.width → y + 1 < m.height → IsTrue (has_open_ends (open_at m) (down_edge x y))
  lower_open l k =
      both_true (open_at m x y) (open_at m x (y + 1)) (clear x y l (omega (arith, k)) (omega arith) (omega arith) (omega arith) (omega arith)) (clear x (y + 1) l k (omega arith) (omega arith) (omega arith) (omega arith))

-- the right and the lower edge of a pixel
pub right_inside : (w h x y : ℕ) → x < w → y < h → nat_lt (x + 1) w ≡ is_edge w h (right_edge x y)
right_inside w h x y l m = grind (arith, nat_tests)

pub lower_inside : (w h x y : ℕ) → x < w → y < h → nat_lt (y + 1) h ≡ is_edge w h (down_edge x y)
lower_inside w h x y l m = grind (arith, nat_tests)

pub both_edges : (r : Raster) (mask : Field Bool) (S : Field ℤ) (x y a b : ℕ) → pos a ≡ where_true (nat_lt (x + 1) r.width) (inner_edge_cost r mask S (right_edge x y)) → pos b ≡ where_true (nat_lt (y + 1) r.height) (inner_edge_cost r mask S (down_edge x y)) → pos (a + b) ≡ inner_cost_from r mask S x y
unfolding inner_cost_from
both_edges r mask S x y a b p q = omega (arith, ints, p, q)

pub both_seams : (r : Raster) (mask : Field Bool) (S : Field ℤ) (x y a b : ℕ) → pos a ≡ where_true (nat_lt (x + 1) r.width) (seam_edge_cost r mask S (right_edge x y)) → pos b ≡ where_true (nat_lt (y + 1) r.height) (seam_edge_cost r mask S (down_edge x y)) → pos (a + b) ≡ seam_cost_from r mask S x y
unfolding seam_cost_from
both_seams r mask S x y a b p q = omega (arith, ints, p, q)

-- ---- what an edge adds
pub seam_adds_none : (b : Bool) (z : ℤ) → b ≡ true → where_true (not b) z ≡ pos 0
seam_adds_none b z e = rw e refl

pub adds_true : (b : Bool) (z : ℤ) → b ≡ true → where_true b z ≡ z
adds_true b z e = rw e refl

pub inner_adds : (b : Bool) (z : ℤ) → b ≡ false → where_true (not b) z ≡ z
inner_adds b z e = rw e refl

kept : (b : Bool) (z : ℤ) → b ≡ true → where_true (not (not b)) z ≡ z
kept b z e = rw e refl

dropped : (b : Bool) (z : ℤ) → b ≡ false → where_true (not (not b)) z ≡ pos 0
dropped b z e = rw e refl

in_one_tile : (n u v : ℕ) (z : ℤ) → u < n → sum_below n (λ t. where_true ((u == t) && (v == t)) z) ≡ where_true (not (not (u == v))) z
in_one_tile n u v z l =
    elim (eqb_tells u v) [
      | inl same ↦
          subst (λ (w : ℕ). sum_below n (λ t. where_true ((u == t) && (w == t)) z) ≡ where_true (not (not (u == v))) z) same.1
          (sum_below-same n (λ t. where_true ((u == t) && (u == t)) z) (λ t. where_true (u == t) z) (λ t m. ap (λ (b : Bool). where_true b z) (one_test u t))
          ∙ sum_below-pick n u (λ t. z) l
          ∙ sym (kept (u == v) z same.0))
      | inr other ↦
          sum_below-zeros n (λ t. where_true ((u == t) && (v == t)) z) (λ t m. no_number ((u == t) && (v == t)) z (apart u v t other.0))
          ∙ sym (dropped (u == v) z other.0)
    ]

pub tile_costs_are : (r : Raster) (mask : Field Bool) (S : Field ℤ) → ((x y : ℕ) → x < r.width → y < r.height → r.tile x y < r.tile_count) → sum_grid r.width r.height (inner_cost_from r mask S) ≡ tile_costs r mask S
unfolding tile_costs tile_cost inner_cost_from inner_edge_cost
tile_costs_are r mask S numbered =
    sym (sym (sum_edges-below r.width r.height r.tile_count (λ t. inner_cost r mask t S))
    ∙ sum_edges-same r.width r.height (λ e. sum_below r.tile_count (λ t. inner_cost r mask t S e)) (inner_edge_cost r mask S)
    (λ e i. (let l = edge_ends r.width r.height e i in
    in_one_tile r.tile_count (r.tile e.x e.y) (r.tile (end_x e) (end_y e)) (edge_cost r mask S e) (numbered e.x e.y l.0 l.1))))

-- ---- costs of rows: none, a row more, and rows more, which add up to no more than 128 bits hold
module _ (r : Raster) (mask : Field Bool) (S : Field ℤ) where
  pub no_rows : (a : ℕ) → AreOfRows r mask S a a (record { tiles = 0; seams = 0 })
  no_rows a = (omega (arith, ints), omega (arith, ints), (omega arith, omega arith))

  pub row_more : (a y : ℕ) (c n m : Costs) → a ≤ y → AreOfRows r mask S a y c → pos n.tiles ≡ sum_row r.width (inner_cost_from r mask S) y → pos n.seams ≡ sum_row r.width (seam_cost_from r mask S) y → AreOfEdges 8192 n → m.tiles ≡ c.tiles + n.tiles → m.seams ≡ c.seams + n.seams → AreOfRows r mask S a (y + 1) m
  row_more a y c n m from before tiles seams small p q = (
    omega (arith, ints, before.0, tiles, p, sum_below-more y (sum_row r.width (inner_cost_from r mask S))),
    omega (arith, ints, before.1, seams, q, sum_below-more y (sum_row r.width (seam_cost_from r mask S))),
    (omega (arith, from, before.2, small, p), omega (arith, from, before.2, small, q)),
  )

  module _ (a b d : ℕ) (c n : Costs) (first : a ≤ b) (second : b ≤ d) (before : AreOfRows r mask S a b c) (after : AreOfRows r mask S b d n) where
    pub rows_more : (m : Costs) → m.tiles ≡ c.tiles + n.tiles → m.seams ≡ c.seams + n.seams → AreOfRows r mask S a d m
    rows_more m p q = (
      omega (arith, ints, before.0, after.0, p),
      omega (arith, ints, before.1, after.1, q),
      (omega (arith, first, second, before.2, after.2, p), omega (arith, first, second, before.2, after.2, q)),
    )

    pub rows_fit : d ≤ 4096 → (c.tiles + n.tiles < 2 ^ 128) × (c.seams + n.seams < 2 ^ 128)
    rows_fit high = (omega (arith, first, second, high, before.2, after.2), omega (arith, first, second, high, before.2, after.2))

-- rows from the first on add up to the whole
pub from_first : (w h z : ℕ) (f : Field ℤ) → sum_grid w h f ≡ sum_grid w 0 f +ℤ pos z → pos z ≡ sum_grid w h f
from_first w h z f e = omega (arith, ints, e, sum_below-none (sum_row w f))
