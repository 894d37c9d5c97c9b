-- The cost of the seams, as a pass over the rows adds it up.
use Rattle.std.proofs.Common.{◌≡◌, ℕ, ◌+◌, ◌<◌, refl, arith, true, false}
use Rattle.std.specs.Prelude.{ℤ, pos, ◌&&◌, Bool}
use Rattle.std.proofs.lemmas.Int.{ints}
use Rattle.raster_model.specs.Raster.{Raster, seam_cost, seam_cost_from, seam_edge_cost}
use Rattle.raster_model.specs.Sums.{Field, is_edge, right_edge, down_edge, sum_grid}
use Rattle.certificates.proofs.FlowSums.{both_terms}
use Rattle.sums_and_lists.specs.Sums.{sum_below, where_true}
use Rattle.sums_and_lists.proofs.SumLemmas.{sum_below-more}

-- one number more of a sum
pub adds : (n a b : ℕ) (f : ℕ → ℤ) → pos a ≡ sum_below n f → pos b ≡ f n → pos (a + b) ≡ sum_below (n + 1) f
adds n a b f p q = omega (arith, ints, p, q, sum_below-more n f)

-- the right and the lower edge of a pixel
pub both_seam_costs : (r : Raster) (mask : Field Bool) (S : Field ℤ) (x y a b : ℕ) → x < r.width → y < r.height → pos a ≡ where_true (is_edge r.width r.height (right_edge x y)) (seam_edge_cost r mask S (right_edge x y)) → pos b ≡ where_true (is_edge r.width r.height (down_edge x y)) (seam_edge_cost r mask S (down_edge x y)) → pos (a + b) ≡ seam_cost_from r mask S x y
unfolding seam_cost_from
both_seam_costs r mask S x y a b l m p q = omega (arith, ints, p, q, both_terms r.width r.height x y (seam_edge_cost r mask S) l m)

pub seam_cost_is : (r : Raster) (mask : Field Bool) (S : Field ℤ) → sum_grid r.width r.height (seam_cost_from r mask S) ≡ seam_cost r mask S
unfolding seam_cost seam_cost_from
seam_cost_is r mask S = refl

-- what passes both tests, and what fails one
pub counts : (a b : Bool) (z : ℤ) → (a && b) ≡ true → z ≡ where_true a (where_true b z)
counts true true z e = refl
counts true false z e = absurd cc
counts false b z e = absurd cc

pub counts_not : (a b : Bool) (z : ℤ) → (a && b) ≡ false → pos 0 ≡ where_true a (where_true b z)
counts_not true true z e = absurd cc
counts_not true false z e = refl
counts_not false b z e = refl
