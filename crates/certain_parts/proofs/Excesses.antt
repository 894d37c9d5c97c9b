-- What excesses are at least, what they sum to, and that they are convex.
use Rattle.std.proofs.Common.{◌≡◌, ◌∙◌, ℕ, ◌+◌, ◌*◌, ◌≤◌, ap, refl, arith, Bool, true, false}
use Rattle.std.specs.Prelude.{ℤ, pos, neg_ℤ, ◌+ℤ◌, ◌-ℤ◌, ◌*ℤ◌, ◌≤ℤ◌, if◌then◌else◌, IsTrue, unsigned_abs}
use Rattle.std.proofs.lemmas.Int.{ints}
use Rattle.std.proofs.lemmas.Nat.{mul-le}
use Rattle.std.proofs.lemmas.Bool.{and_from}
use Rattle.sums_and_lists.specs.Sums.{where_true}
use Rattle.sums_and_lists.proofs.Orders.{ends_in}
use Rattle.sums_and_lists.proofs.Products.{mul-add}
use Rattle.sums_and_lists.proofs.Tests.{and_first, and_second}
use Rattle.raster_model.specs.declared.edge.Edge.{Edge}
use Rattle.raster_model.specs.Sums.{Field, at_edge_end, at_edge_start, down_edge, end_x, end_y, is_edge, right_edge, sum_edges}
use Rattle.raster_model.specs.Raster.{IsCongruent, cycle_departure, departure, edge_cost, has_open_ends, is_inner, masked_weight, over, residue, steps}
use Rattle.raster_model.specs.Certificates.{face_over_total, face_product, face_total, faces_of_tile}
use Rattle.raster_model.specs.Whole.{whole_cost, whole_of}
use Rattle.raster_model.proofs.Planar.{planar}
use Rattle.raster_model.proofs.Steps.{product_at_most_steps}
use Rattle.raster_model.proofs.SumLemmas.{sum_edges-add, sum_edges-less, sum_edges-same, sum_grid-same}
use Rattle.raster_model.proofs.TileLeast.{cycles_exact, cycles_of, departure_is, no_column, no_row, residue_is}
use Rattle.raster_model.proofs.Whole.{whole_tile_cost}
use Rattle.certain_parts.specs.Margins.{Faced, IsCertified, above_weight, excess, extra_cost, face_step}
use Rattle.certain_parts.specs.Laws.{ExcessesAddUp}
use Rattle.certain_parts.proofs.Convex.{IsConvex, steps_convex}

-- ---- one edge
turned : (k d p o : ℤ) → (k *ℤ d) ≤ℤ (p +ℤ o) → pos 0 ≤ℤ (p -ℤ d *ℤ k +ℤ o)
turned k d p o h = omega (arith, ints, h)

-- the steps of a face fit the weight
pub step_fits : (c : Faced) → IsCertified c → (e : Edge) → IsTrue (is_edge c.raster.width c.raster.height e) → unsigned_abs (face_step c e) ≤ c.raster.steep * masked_weight c.raster c.mask e
step_fits c is e i = is.certified.fits e (and_from (is_edge c.raster.width c.raster.height e) (is_inner (whole_of c.raster) 0 e) i refl)

pub excess_positive : (c : Faced) → IsCertified c → (e : Edge) → IsTrue (is_edge c.raster.width c.raster.height e) → (j : ℤ) → pos 0 ≤ℤ excess c e j
excess_positive c is e i j =
    turned j (face_step c e) (pos (masked_weight c.raster c.mask e * steps c.raster.steep j)) (pos (above_weight c e))
    (product_at_most_steps j (face_step c e) (masked_weight c.raster c.mask e) c.raster.steep (step_fits c is e i))

convex_at : (d j a b m o : ℤ) → (m +ℤ m) ≤ℤ (a +ℤ b) → ((m -ℤ d *ℤ j +ℤ o) +ℤ (m -ℤ d *ℤ j +ℤ o)) ≤ℤ ((a -ℤ d *ℤ (j +ℤ pos 1) +ℤ o) +ℤ (b -ℤ d *ℤ (j -ℤ pos 1) +ℤ o))
convex_at d j a b m o h =
    let up : d *ℤ (j +ℤ pos 1) ≡ d *ℤ j +ℤ d = mul-add d j (pos 1) ∙ omega (arith, ints) in
    let down : d *ℤ (j -ℤ pos 1) ≡ d *ℤ j -ℤ d = mul-add d j (neg_ℤ (pos 1)) ∙ omega (arith, ints) in
    omega (arith, ints, h, up, down)

pub excess_convex : (c : Faced) (e : Edge) → 1 ≤ c.raster.steep → IsConvex (excess c e)
excess_convex c e one j =
    let g = masked_weight c.raster c.mask e in
    let q = c.raster.steep in
    let s = mul-le g (steps q j + steps q j) g (steps q (j +ℤ pos 1) + steps q (j -ℤ pos 1)) (omega arith) (steps_convex q j one) in
    convex_at (face_step c e) j (pos (g * steps q (j +ℤ pos 1))) (pos (g * steps q (j -ℤ pos 1))) (pos (g * steps q j)) (pos (above_weight c e)) (omega (arith, ints, s))

-- ---- all edges
-- what an edge costs is its part of what the faces prove, and the excess there
split : (clear : Bool) (k k' d : ℤ) (w q : ℕ) → unsigned_abs d ≤ q * (if clear then w else 0) → (clear ≡ true → k' ≡ k)
    → where_true clear (pos ((if clear then w else 0) * steps q k'))
    ≡ (k *ℤ d -ℤ pos (over (if clear then w else 0) d)) +ℤ where_true clear (pos ((if clear then w else 0) * steps q k') -ℤ d *ℤ k' +ℤ pos (over (if clear then w else 0) d))
split true k k' d w q p e = rw (e refl) (omega (arith, ints))
split false k k' d w q p e = let none : d ≡ pos 0 = omega (arith, ints, p) in rw none (omega (arith, ints))

module _ (c : Faced) (is : IsCertified c) (other : Field ℤ) (good : IsCongruent c.raster c.mask other) where
  abbrev w : ℕ
  w = c.raster.width

  abbrev h : ℕ
  h = c.raster.height

  abbrev product_at : Edge → ℤ
  product_at e = cycle_departure c.raster (cycles_of c.raster other) e *ℤ face_step c e

  abbrev over_at : Edge → ℤ
  over_at e = pos (above_weight c e)

  departs : (e : Edge) → IsTrue (is_edge w h e) → IsTrue (has_open_ends c.mask e) → departure c.raster other e ≡ cycle_departure c.raster (cycles_of c.raster other) e
  departs e i o =
      let t = ends_in e.x e.y w h (end_x e) (end_y e) i in
      departure_is c.raster other e
      (cycles_exact c.raster c.mask other good e.x e.y t.0 t.1 (and_first (at_edge_start c.mask e) (at_edge_end c.mask e) o))
      (cycles_exact c.raster c.mask other good (end_x e) (end_y e) t.2 t.3 (and_second (at_edge_start c.mask e) (at_edge_end c.mask e) o))

  at_edge : (e : Edge) → IsTrue (is_edge w h e) → edge_cost c.raster c.mask other e ≡ (product_at e -ℤ over_at e) +ℤ extra_cost c other e
  at_edge e i =
      split (has_open_ends c.mask e) (cycle_departure c.raster (cycles_of c.raster other) e) (departure c.raster other e) (face_step c e) (c.raster.weight e) c.raster.steep
      (step_fits c is e i) (departs e i)

  products_are : face_total (whole_of c.raster) 0 c.faces ≡ sum_edges w h product_at
  unfolding face_total face_product
  products_are =
      sum_grid-same w h (λ x y. faces_of_tile (whole_of c.raster) 0 c.faces x y *ℤ residue c.raster x y)
      (λ x y. faces_of_tile (whole_of c.raster) 0 c.faces x y *ℤ (cycle_departure c.raster (cycles_of c.raster other) (right_edge x (y + 1)) +ℤ cycle_departure c.raster (cycles_of c.raster other) (down_edge x y) -ℤ cycle_departure c.raster (cycles_of c.raster other) (right_edge x y) -ℤ cycle_departure c.raster (cycles_of c.raster other) (down_edge (x + 1) y)))
      (λ x y l m. ap (λ (z : ℤ). faces_of_tile (whole_of c.raster) 0 c.faces x y *ℤ z) (residue_is c.raster (cycles_of c.raster other) x y))
      ∙ planar w h (faces_of_tile (whole_of c.raster) 0 c.faces) (cycle_departure c.raster (cycles_of c.raster other)) (no_column (whole_of c.raster) 0 c.faces) (no_row (whole_of c.raster) 0 c.faces)

  overs_are : face_over_total (whole_of c.raster) c.mask 0 c.faces ≡ sum_edges w h over_at
  unfolding face_over_total
  overs_are = refl

  pub adds_up : whole_cost c.raster c.mask other ≡ whole_cost c.raster c.mask c.surface +ℤ sum_edges w h (extra_cost c other)
  unfolding whole_cost
  adds_up =
      sums _ _ _ _ _ _ _ _ _ _
      (sum_edges-same w h (edge_cost c.raster c.mask other) (λ e. (product_at e -ℤ over_at e) +ℤ extra_cost c other e) at_edge)
      (sum_edges-add w h (λ e. product_at e -ℤ over_at e) (extra_cost c other))
      (sum_edges-less w h product_at over_at)
      products_are overs_are is.certified.equal (whole_tile_cost c.raster c.mask c.surface)
    where
      sums : (cost both less products overs extras total above tile whole : ℤ) → cost ≡ both → both ≡ less +ℤ extras → less ≡ products -ℤ overs → total ≡ products → above ≡ overs → total -ℤ above ≡ tile → tile ≡ whole → cost ≡ whole +ℤ extras
      sums cost both less products overs extras total above tile whole a b d e f g i = omega (arith, ints, a, b, d, e, f, g, i)

pub excesses_add_up : ExcessesAddUp
excesses_add_up c is other good = adds_up c is other good
