-- For callers: where a surface departs by certified corrections, their faces certify it.
use Rattle.std.proofs.Common.{◌≡◌, ◌∙◌, ℕ, ◌*◌, ap, sym, refl, arith, Bool, true, false, List}
use Rattle.std.specs.Prelude.{ℤ, pos, IsTrue, if◌then◌else◌}
use Rattle.std.proofs.lemmas.Bool.{and_from}
use Rattle.raster_model.specs.declared.edge.Edge.{Edge}
use Rattle.raster_model.specs.declared.tiling.Window.{Window}
use Rattle.raster_model.specs.Cells.{IsCertifiedTile}
use Rattle.raster_model.specs.Raster.{Raster, departure, has_open_ends, is_inner, lifted, steps, tile_cost}
use Rattle.raster_model.specs.Sums.{Field, is_edge}
use Rattle.raster_model.proofs.SumLemmas.{sum_edges-same}
use Rattle.raster_model.specs.Tiles.{IsTileWindow}
use Rattle.raster_model.proofs.TileEdges.{ends_within}
use Rattle.wrapped_gradient.specs.declared.corrections.Corrections.{Corrections}
use Rattle.wrapped_gradient.specs.Corrections.{correction_at}
use Rattle.wrapped_gradient.specs.Windows.{IsEdgeOf}
use Rattle.surface_integration.specs.Cycles.{DepartBy}
use Rattle.dual_grid.specs.Answers.{AreCertifiedCorrections, correction_cost}
use Rattle.sums_and_lists.specs.Sums.{where_true}

-- an edge costs the same by its departure and by its correction
edge_same : (inner ends : Bool) (w d k : ℕ) → (inner ≡ true → d ≡ k) → where_true inner (where_true ends (pos ((if ends then w else 0) * d))) ≡ where_true inner (pos ((if ends then w else 0) * k))
edge_same false ends w d k e = refl
edge_same true false w d k e = let z : 0 * k ≡ 0 = omega arith in ap pos (sym z)
edge_same true true w d k e = ap (λ (n : ℕ). pos (w * n)) (e refl)

module _ (r : Raster) (t : ℕ) (v : Window) (is : IsTileWindow r t v) (mask : Field Bool) (k : Corrections) (cycles : Field ℤ) (departs : DepartBy r v cycles k) where
  -- an inner edge is one of the window
  inner_edge : (e : Edge) → IsTrue (is_edge r.width r.height e) → is_inner r t e ≡ true → IsEdgeOf v e
  inner_edge e i n = let w = ends_within r t v is e (and_from (is_edge r.width r.height e) (is_inner r t e) i n) in record { start = w.0; end = w.1 }

  -- the tile costs what the corrections cost
  costs_are : tile_cost r mask t (lifted r cycles) ≡ correction_cost r mask t v k
  unfolding tile_cost correction_cost
  costs_are =
      sum_edges-same r.width r.height _ _
      (λ e i. edge_same (is_inner r t e) (has_open_ends mask e) (r.weight e) (steps r.steep (departure r (lifted r cycles) e)) (steps r.steep (correction_at v k e))
      (λ n. ap (λ (z : ℤ). steps r.steep z) (departs e (inner_edge e i n))))

  pub certified_surface : (faces : List ℤ) → AreCertifiedCorrections r mask t v k faces → IsCertifiedTile r mask t (lifted r cycles) faces
  certified_surface faces answer = (answer.count, record { fits = answer.fits; equal = answer.equal ∙ sym costs_are })
