-- A surface that is moved by whole cycles, the same at each pixel, stays certified whole.
use Rattle.std.proofs.Common.{◌≡◌, ◌∙◌, sym, ap, arith, Bool, List}
use Rattle.std.specs.Prelude.{ℤ, IsTrue, pos, ◌*◌}
use Rattle.std.proofs.lemmas.Int.{ints}
use Rattle.raster_model.specs.declared.edge.Edge.{Edge}
use Rattle.raster_model.specs.Sums.{Field, end_x, end_y, is_edge}
use Rattle.raster_model.specs.Raster.{Raster, cycle_departure, departure, has_open_ends, lifted, masked_weight, steps}
use Rattle.raster_model.proofs.Exact.{cycles_depart, lifted_is_congruent}
use Rattle.raster_model.proofs.SumLemmas.{sum_edges-same}
use Rattle.sums_and_lists.specs.Sums.{where_true}
use Rattle.sums_and_lists.proofs.Orders.{ends_in}
use Rattle.raster_model.specs.Whole.{IsCertifiedWhole, whole_cost}
use Rattle.raster_model.proofs.Whole.{whole_tile_cost}
use Rattle.whole_solver.specs.Solved.{AreMoved}

module _ (r : Raster) (mask : Field Bool) (c d : Field ℤ) (k : ℤ) (moved : AreMoved r c d k) where
  departs_same : (e : Edge) → IsTrue (is_edge r.width r.height e) → departure r (lifted r d) e ≡ departure r (lifted r c) e
  departs_same e i =
      let t = ends_in e.x e.y r.width r.height (end_x e) (end_y e) i in
      let p = moved e.x e.y t.0 t.1 in
      let q = moved (end_x e) (end_y e) t.2 t.3 in
      let m : cycle_departure r d e ≡ cycle_departure r c e = omega (arith, ints, p, q) in
      cycles_depart r d e ∙ m ∙ sym (cycles_depart r c e)

  costs_same : whole_cost r mask (lifted r d) ≡ whole_cost r mask (lifted r c)
  unfolding whole_cost
  costs_same = sum_edges-same r.width r.height _ _ (λ e i. ap (λ (z : ℤ). where_true (has_open_ends mask e) (pos (masked_weight r mask e * steps r.steep z))) (departs_same e i))

  pub stays_certified : (faces : List ℤ) → IsCertifiedWhole r mask (lifted r c) faces → IsCertifiedWhole r mask (lifted r d) faces
  stays_certified faces w = record {
    congruent = lifted_is_congruent r mask d;
    certified = (
      w.certified.0,
      record {
        fits = w.certified.1.fits;
        equal = w.certified.1.equal ∙ whole_tile_cost r mask (lifted r c) ∙ sym costs_same ∙ sym (whole_tile_cost r mask (lifted r d));
      },
    );
  }
