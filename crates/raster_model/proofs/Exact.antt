-- The definitions by division are exact: what they stand for, said by whole cycles alone.
use Rattle.std.proofs.Common.{◌≡◌, suc, ◌+◌, ◌/◌, ◌≤◌, ◌∙◌, sym, ap, refl, arith, true, false}
use Rattle.std.specs.Prelude.{ℤ, pos, negsuc, ◌+ℤ◌, ◌-ℤ◌, ◌*ℤ◌, int_div, unsigned_abs}
use Rattle.std.proofs.lemmas.Int.{ints}
use Rattle.raster_model.specs.declared.edge.Edge.{Edge}
use Rattle.raster_model.specs.Sums.{Field, at_edge_start, at_edge_end, end_x, end_y, right_edge, down_edge}
use Rattle.raster_model.specs.Raster.{Raster, gradient, round_cell, residue, departure, lifted, cycle_departure}
use Rattle.raster_model.specs.Certificates.{face_total, face_product, face_difference, faces_of_tile}
use Rattle.raster_model.specs.Exact.{DepartureIsExact, LiftedIsCongruent, CyclesDepart, ResidueIsExact, ResidueIsSmall, FacesMeetDepartures}
use Rattle.raster_model.proofs.SumLemmas.{sum_grid-same, sum_edges-same}
use Rattle.raster_model.proofs.Planar.{planar}
use Rattle.raster_model.proofs.PhaseLemmas.{div_exact, edge_exact, wrapped_is_it}
use Rattle.raster_model.proofs.TileLeast.{no_column, no_row, cycles_of, cycles_exact, departure_is, residue_is}
use Rattle.sums_and_lists.proofs.Orders.{ends_in}
use Rattle.sums_and_lists.proofs.Tests.{and_first, and_second}

whole : (r : Raster) (S : Field ℤ) (e : Edge) → at_edge_start S e ≡ pos (at_edge_start r.phase e) +ℤ pos 65536 *ℤ at_edge_start (cycles_of r S) e → at_edge_end S e ≡ pos (at_edge_end r.phase e) +ℤ pos 65536 *ℤ at_edge_end (cycles_of r S) e → at_edge_end S e -ℤ at_edge_start S e ≡ gradient r e +ℤ pos 65536 *ℤ departure r S e
whole r S e p q =
    let t = edge_exact r e in
    rw (departure_is r S e p q) (omega (arith, ints, p, q, t))

pub departure_is_exact : DepartureIsExact
departure_is_exact r mask S good e i o =
    let t = ends_in e.x e.y r.width r.height (end_x e) (end_y e) i in
    whole r S e (cycles_exact r mask S good e.x e.y t.0 t.1 (and_first (at_edge_start mask e) (at_edge_end mask e) o)) (cycles_exact r mask S good (end_x e) (end_y e) t.2 t.3 (and_second (at_edge_start mask e) (at_edge_end mask e) o))

pub residue_is_exact : ResidueIsExact
residue_is_exact r x y =
    let ab = edge_exact r (right_edge x y) in
    let bd = edge_exact r (down_edge (x + 1) y) in
    let cd = edge_exact r (right_edge x (y + 1)) in
    let ac = edge_exact r (down_edge x y) in
    rw (residue_is r (λ a b. pos 0) x y) (omega (arith, ints, ab, bd, cd, ac))

pub faces_meet_departures : FacesMeetDepartures
unfolding face_total face_product
faces_meet_departures r S good t f =
    sum_grid-same r.width r.height (λ x y. faces_of_tile r t f x y *ℤ residue r x y) (λ x y. faces_of_tile r t f x y *ℤ (cycle_departure r (cycles_of r S) (right_edge x (y + 1)) +ℤ cycle_departure r (cycles_of r S) (down_edge x y) -ℤ cycle_departure r (cycles_of r S) (right_edge x y) -ℤ cycle_departure r (cycles_of r S) (down_edge (x + 1) y))) (λ x y l m. ap (λ (z : ℤ). faces_of_tile r t f x y *ℤ z) (residue_is r (cycles_of r S) x y))
    ∙ planar r.width r.height (faces_of_tile r t f) (cycle_departure r (cycles_of r S)) (no_column r t f) (no_row r t f)
    ∙ sum_edges-same r.width r.height (λ e. cycle_departure r (cycles_of r S) e *ℤ face_difference (faces_of_tile r t f) e) (λ e. departure r S e *ℤ face_difference (faces_of_tile r t f) e)
    (λ e i. let u = ends_in e.x e.y r.width r.height (end_x e) (end_y e) i in
    ap (λ (z : ℤ). z *ℤ face_difference (faces_of_tile r t f) e) (sym (departure_is r S e (cycles_exact r (λ x y. true) S good e.x e.y u.0 u.1 refl) (cycles_exact r (λ x y. true) S good (end_x e) (end_y e) u.2 u.3 refl))))

pub residue_is_small : ResidueIsSmall
residue_is_small r x y =
    let ab = wrapped_is_it (r.slope false) (r.phase x y) (r.phase (x + 1) y) in
    let bd = wrapped_is_it (r.slope true) (r.phase (x + 1) y) (r.phase (x + 1) (y + 1)) in
    let cd = wrapped_is_it (r.slope false) (r.phase x (y + 1)) (r.phase (x + 1) (y + 1)) in
    let ac = wrapped_is_it (r.slope true) (r.phase x y) (r.phase x (y + 1)) in
    let round : unsigned_abs (round_cell r x y) ≤ 131070 = omega (arith, ints, ab.low, ab.high, bd.low, bd.high, cd.low, cd.high, ac.low, ac.high) in
    (round, quotient_small (round_cell r x y) round)
  where
    quotient_small : (z : ℤ) → unsigned_abs z ≤ 131070 → unsigned_abs (int_div z (pos 65536)) ≤ 1
    quotient_small (pos n) h = omega arith
    quotient_small (negsuc n) h = let e : suc n / 65536 ≤ 1 = omega arith in omega (arith, ints, e)

pub lifted_is_congruent : LiftedIsCongruent
lifted_is_congruent r mask cycles x y l m o = (cycles x y, refl)

pub cycles_depart : CyclesDepart
cycles_depart r cycles e =
    let t = edge_exact r e in
    let d : at_edge_end (lifted r cycles) e -ℤ at_edge_start (lifted r cycles) e -ℤ gradient r e ≡ pos 65536 *ℤ cycle_departure r cycles e = omega (arith, ints, t) in
    ap (λ (z : ℤ). int_div z (pos 65536)) d ∙ div_exact (cycle_departure r cycles e)
