-- A congruent surface with no departures costs nothing, and no surface costs less.
use Rattle.std.proofs.Common.{◌≡◌, ℕ, ◌*◌, ◌∙◌, refl, arith, Bool, true, false}
use Rattle.std.specs.Prelude.{ℤ, pos, ◌≤ℤ◌, IsTrue, if◌then◌else◌}
use Rattle.std.proofs.lemmas.Int.{ints}
use Rattle.raster_model.specs.declared.edge.Edge.{Edge}
use Rattle.raster_model.specs.Sums.{Field, is_edge, sum_edges}
use Rattle.raster_model.specs.Raster.{Raster, departure, has_open_ends, masked_weight, steps, edge_cost, is_inner, inner_cost, is_seam, seam_edge_cost, tile_cost, seam_cost}
use Rattle.raster_model.specs.Best.{HasNoDepartures, NoDeparturesAreBest}
use Rattle.raster_model.specs.Seams.{shifted}
use Rattle.raster_model.proofs.Steps.{no_steps}
use Rattle.raster_model.proofs.SumLemmas.{sum_edges-le, sum_edges-same, sum_edges-zeros}
use Rattle.sums_and_lists.proofs.SumLemmas.{where_zero}
use Rattle.sums_and_lists.specs.Sums.{where_true}

no_cost : (k : Bool) (w q : ℕ) (d : ℤ) → (k ≡ true → d ≡ pos 0) → where_true k (pos ((if k then w else 0) * steps q d)) ≡ pos 0
no_cost true w q d h = rw (no_steps q d (h refl)) (omega (arith, ints))
no_cost false w q d h = refl

not_below : (s k : Bool) (n : ℕ) → pos 0 ≤ℤ where_true s (where_true k (pos n))
not_below true true n = omega (arith, ints)
not_below true false n = omega (arith, ints)
not_below false k n = omega (arith, ints)

-- a sum of costs is not below 0
pub sum_not_below : (w h : ℕ) (s k : Edge → Bool) (n : Edge → ℕ) → pos 0 ≤ℤ sum_edges w h (λ e. where_true (s e) (where_true (k e) (pos (n e))))
sum_not_below w h s k n =
    rw (sum_edges-zeros w h) at (sum_edges-le w h (λ e. pos 0) (λ e. where_true (s e) (where_true (k e) (pos (n e)))) (λ e i. not_below (s e) (k e) (n e)))

module _ (r : Raster) (mask : Field Bool) (S : Field ℤ) (flat : HasNoDepartures r mask S) where
  edge_cost-flat : (e : Edge) → IsTrue (is_edge r.width r.height e) → edge_cost r mask S e ≡ pos 0
  edge_cost-flat e i = no_cost (has_open_ends mask e) (r.weight e) r.steep (departure r S e) (λ o. flat e i o)

  pub tile_cost-flat : (t : ℕ) → tile_cost r mask t S ≡ pos 0
  unfolding tile_cost
  tile_cost-flat t =
      sum_edges-same r.width r.height (inner_cost r mask t S) (λ e. pos 0) (λ e i. where_zero (is_inner r t e) (edge_cost r mask S e) (edge_cost-flat e i))
      ∙ sum_edges-zeros r.width r.height

  pub seam_cost-flat : seam_cost r mask S ≡ pos 0
  unfolding seam_cost
  seam_cost-flat =
      sum_edges-same r.width r.height (seam_edge_cost r mask S) (λ e. pos 0) (λ e i. where_zero (is_seam r e) (edge_cost r mask S e) (edge_cost-flat e i))
      ∙ sum_edges-zeros r.width r.height

pub tile_cost-not_below : (r : Raster) (mask : Field Bool) (t : ℕ) (S : Field ℤ) → pos 0 ≤ℤ tile_cost r mask t S
unfolding tile_cost
tile_cost-not_below r mask t S = sum_not_below r.width r.height (is_inner r t) (has_open_ends mask) (λ e. masked_weight r mask e * steps r.steep (departure r S e))

pub seam_cost-not_below : (r : Raster) (mask : Field Bool) (S : Field ℤ) → pos 0 ≤ℤ seam_cost r mask S
unfolding seam_cost
seam_cost-not_below r mask S = sum_not_below r.width r.height (is_seam r) (has_open_ends mask) (λ e. masked_weight r mask e * steps r.steep (departure r S e))

pub no_departures_are_best : NoDeparturesAreBest
no_departures_are_best r mask S good flat = record {
  congruent = good;
  in_tiles = λ t l S' g. rw (tile_cost-flat r mask S flat t) (tile_cost-not_below r mask t S');
  at_seams = λ o off. rw (seam_cost-flat r mask S flat) (seam_cost-not_below r mask (shifted S o));
}
