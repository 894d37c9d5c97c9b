-- What is least over the whole raster, and what it costs by tiles and seams.
use Rattle.std.proofs.Common.{◌≡◌, ◌∙◌, ℕ, ◌<◌, sym, ap, refl, arith, Bool, inl, inr}
use Rattle.std.specs.Prelude.{ℤ, ◌+ℤ◌, ◌==◌, ◌&&◌, not}
use Rattle.std.proofs.lemmas.Int.{ints}
use Rattle.std.proofs.lemmas.Bool.{eq-eqb, ne_eqb}
use Rattle.std.proofs.lemmas.Bool.Decides.{eqb_tells}
use Rattle.raster_model.specs.declared.edge.Edge.{Edge}
use Rattle.raster_model.specs.Sums.{Field, at_edge_start, at_edge_end, end_x, end_y, sum_edges}
use Rattle.raster_model.specs.Raster.{Raster, edge_cost, inner_cost, seam_cost, seam_edge_cost, tile_cost}
use Rattle.raster_model.specs.Best.{tiles_cost, total_cost}
use Rattle.raster_model.proofs.SumLemmas.{sum_edges-add, sum_edges-below, sum_edges-same}
use Rattle.raster_model.proofs.TileLeast.{certified_tiles_are_least}
use Rattle.raster_model.proofs.TotalCosts.{none_costs_less}
use Rattle.sums_and_lists.specs.Sums.{sum_below, where_true}
use Rattle.sums_and_lists.proofs.Orders.{ends_in}
use Rattle.sums_and_lists.proofs.SumLemmas.{sum_below-pick, sum_below-same, where_both}
use Rattle.raster_model.specs.Whole.{BestBoundsTheLeastOfAll, CertifiedWholeIsLeast, WholeIsTilesAndSeams, whole_cost, whole_of}

-- the raster as one tile: what a surface costs there
pub whole_tile_cost : (r : Raster) (mask : Field Bool) (S : Field ℤ) → tile_cost (whole_of r) mask 0 S ≡ whole_cost r mask S
unfolding tile_cost whole_cost
whole_tile_cost r mask S = refl

pub certified_whole_is_least : CertifiedWholeIsLeast
certified_whole_is_least r mask S faces c = record {
  congruent = c.congruent;
  least = λ S' k. rw (← whole_tile_cost r mask S, ← whole_tile_cost r mask S') (certified_tiles_are_least (whole_of r) mask 0 S _ c.certified.1 S' k);
}

-- ---- each edge is inner in one tile, or a seam edge
same_or_not : (a b : ℕ) (z : ℤ) → z ≡ where_true (b == a) z +ℤ where_true (not (a == b)) z
same_or_not a b z = elim (eqb_tells a b) [
  | inl e ↦ (let f = eq-eqb b a (sym e.1) in rw (e.0, f) (omega (arith, ints)))
  | inr n ↦ (let f = ne_eqb b a (λ e. n.1 (sym e)) in rw (n.0, f) (omega (arith, ints)))
]

one_place : (n a b : ℕ) (z : ℤ) → a < n → z ≡ sum_below n (λ t. where_true ((a == t) && (b == t)) z) +ℤ where_true (not (a == b)) z
one_place n a b z l =
    let e = sum_below-same n (λ t. where_true ((a == t) && (b == t)) z) (λ t. where_true (a == t) (where_true (b == t) z)) (λ t m. where_both (a == t) (b == t) z) in
    let f = sum_below-pick n a (λ t. where_true (b == t) z) l in
    omega (arith, ints, e, f, same_or_not a b z)

module _ (r : Raster) (mask : Field Bool) (S : Field ℤ) where
  -- what an edge adds to all tiles
  abbrev in_tiles : Edge → ℤ
  in_tiles e = sum_below r.tile_count (λ t. inner_cost r mask t S e)

  tiles_are : tiles_cost r mask S ≡ sum_edges r.width r.height in_tiles
  unfolding tile_cost
  tiles_are = sym (sum_edges-below r.width r.height r.tile_count (λ t e. inner_cost r mask t S e))

  both_are : sum_edges r.width r.height (λ e. in_tiles e +ℤ seam_edge_cost r mask S e) ≡ total_cost r mask S
  unfolding seam_cost
  both_are = sum_edges-add r.width r.height in_tiles (seam_edge_cost r mask S) ∙ ap (λ (z : ℤ). z +ℤ sum_edges r.width r.height (seam_edge_cost r mask S)) (sym tiles_are)

pub whole_is_tiles_and_seams : WholeIsTilesAndSeams
unfolding whole_cost
whole_is_tiles_and_seams r mask S has =
    sum_edges-same r.width r.height (edge_cost r mask S) (λ e. in_tiles r mask S e +ℤ seam_edge_cost r mask S e)
    (λ e i. let k = ends_in e.x e.y r.width r.height (end_x e) (end_y e) i in
    one_place r.tile_count (at_edge_start r.tile e) (at_edge_end r.tile e) (edge_cost r mask S e) (has e.x e.y k.0 k.1))
    ∙ both_are r mask S

pub best_bounds_the_least_of_all : BestBoundsTheLeastOfAll
best_bounds_the_least_of_all r mask S least has best l = record {
  from = rw (whole_is_tiles_and_seams r mask least has) (none_costs_less r mask S least best l.congruent);
  to = rw (← whole_is_tiles_and_seams r mask S has) (l.least S best.congruent);
}
