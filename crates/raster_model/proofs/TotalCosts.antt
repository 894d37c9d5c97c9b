-- The best surface is within its seam cost of the least of all.
use Rattle.std.proofs.Common.{ℕ, subst, arith, Bool, true, false}
use Rattle.std.specs.Prelude.{ℤ, pos, ◌≤ℤ◌, ◌*◌}
use Rattle.std.proofs.lemmas.Int.{ints}
use Rattle.raster_model.specs.Best.{BestIsWithinItsSeamCost, IsBest, NoneCostsLessThanTheTiles, tiles_cost}
use Rattle.raster_model.specs.Raster.{Raster, IsCongruent, departure, has_open_ends, is_seam, masked_weight, steps, seam_cost, seam_edge_cost, tile_cost}
use Rattle.raster_model.specs.Sums.{Field, sum_edges}
use Rattle.raster_model.proofs.SumLemmas.{sum_edges-le, sum_edges-zeros}
use Rattle.sums_and_lists.specs.Sums.{where_true}
use Rattle.sums_and_lists.proofs.SumLemmas.{sum_below-le}

-- no edge adds less than nothing
part_least : (seam ends : Bool) (n : ℕ) → pos 0 ≤ℤ where_true seam (where_true ends (pos n))
part_least false ends n = omega (arith, ints)
part_least true false n = omega (arith, ints)
part_least true true n = omega (arith, ints)

seams_least : (r : Raster) (mask : Field Bool) (S : Field ℤ) → pos 0 ≤ℤ seam_cost r mask S
unfolding seam_cost
seams_least r mask S =
    subst (λ (z : ℤ). z ≤ℤ sum_edges r.width r.height (seam_edge_cost r mask S)) (sum_edges-zeros r.width r.height)
    (sum_edges-le r.width r.height (λ e. pos 0) (seam_edge_cost r mask S) (λ e i. part_least (is_seam r e) (has_open_ends mask e) (masked_weight r mask e * steps r.steep (departure r S e))))

tiles_least : (r : Raster) (mask : Field Bool) (S other : Field ℤ) → IsBest r mask S → IsCongruent r mask other → tiles_cost r mask S ≤ℤ tiles_cost r mask other
tiles_least r mask S other best congruent = sum_below-le r.tile_count (λ t. tile_cost r mask t S) (λ t. tile_cost r mask t other) (λ t l. best.in_tiles t l other congruent)

pub none_costs_less : NoneCostsLessThanTheTiles
none_costs_less r mask S other best congruent =
    let tiles = tiles_least r mask S other best congruent in
    let seams = seams_least r mask other in
    omega (arith, ints, tiles, seams)

pub within_seam_cost : BestIsWithinItsSeamCost
within_seam_cost r mask S other best congruent =
    let tiles = tiles_least r mask S other best congruent in
    let seams = seams_least r mask other in
    omega (arith, ints, tiles, seams)
