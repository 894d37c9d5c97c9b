-- The costs of a part, as a double loop over the raster adds them up.
use Rattle.std.proofs.Common.{◌≡◌, ℕ, ◌+◌, ◌<◌, ◌≤◌, ap, arith, sym, ◌∙◌, refl}
use Rattle.std.specs.Prelude.{ℤ, pos, ◌+ℤ◌, nat_lt, Bool}
use Rattle.std.proofs.lemmas.Int.{ints}
use Rattle.raster_model.specs.declared.plain.Part.{Part}
use Rattle.raster_model.specs.Sums.{Field, right_edge, down_edge, sum_row, sum_grid}
use Rattle.raster_model.specs.Raster.{Raster}
use Rattle.raster_model.specs.Plain.{part_edge_cost, part_cost_from, part_cost}
use Rattle.sums_and_lists.specs.Sums.{where_true}
use Rattle.sums_and_lists.proofs.SumLemmas.{sum_below-none, sum_below-more, picked, no_number}
use Rattle.sums_and_lists.proofs.Orders.{lt_is, not_lt_is}

-- what stands where a bound allows it
pub taken : (a b m n : ℕ) (z : ℤ) → m ≡ n → pos n ≡ z → a < b → pos m ≡ where_true (nat_lt a b) z
taken a b m n z e p l = ap pos e ∙ p ∙ sym (picked (nat_lt a b) z (lt_is a b l))

pub left_out : (a b m : ℕ) (z : ℤ) → m ≡ 0 → b ≤ a → pos m ≡ where_true (nat_lt a b) z
left_out a b m z e l = ap pos e ∙ sym (no_number (nat_lt a b) z (not_lt_is a b l))

-- one edge and the other
pub both_edges : (r : Raster) (mask : Field Bool) (part : Part) (S : Field ℤ) (x y a b : ℕ) → pos a ≡ where_true (nat_lt (x + 1) r.width) (part_edge_cost r mask part S (right_edge x y)) → pos b ≡ where_true (nat_lt (y + 1) r.height) (part_edge_cost r mask part S (down_edge x y)) → pos (a + b) ≡ part_cost_from r mask part S x y
unfolding part_cost_from
both_edges r mask part S x y a b p q = omega (arith, ints, p, q)

pub part_cost-is : (r : Raster) (mask : Field Bool) (part : Part) (S : Field ℤ) → part_cost r mask part S ≡ sum_grid r.width r.height (part_cost_from r mask part S)
unfolding part_cost part_cost_from
part_cost-is r mask part S = refl

-- ---- a sum over a grid as a double loop adds it up, row by row
pub grid_none : (w : ℕ) (f : Field ℤ) → pos 0 ≡ sum_grid w 0 f
grid_none w f = sym (sum_below-none (sum_row w f))

pub row_none : (w y : ℕ) (f : Field ℤ) (z : ℤ) → z ≡ sum_grid w y f → z ≡ sum_grid w y f +ℤ sum_row 0 f y
row_none w y f z p = omega (arith, ints, p, sum_below-none (λ x. f x y))

pub row_next : (w x y a b : ℕ) (f : Field ℤ) → pos a ≡ sum_grid w y f +ℤ sum_row x f y → pos b ≡ f x y → pos (a + b) ≡ sum_grid w y f +ℤ sum_row (x + 1) f y
row_next w x y a b f p q = omega (arith, ints, p, q, sum_below-more x (λ i. f i y))

pub grid_next : (w x y : ℕ) (f : Field ℤ) (z : ℤ) → x ≡ w → z ≡ sum_grid w y f +ℤ sum_row x f y → z ≡ sum_grid w (y + 1) f
grid_next w x y f z e p = (rw e at p) ∙ sym (sum_below-more y (sum_row w f))

pub grid_all : (w h y : ℕ) (f : Field ℤ) (z : ℤ) → y ≡ h → z ≡ sum_grid w y f → z ≡ sum_grid w h f
grid_all w h y f z e p = rw e at p
