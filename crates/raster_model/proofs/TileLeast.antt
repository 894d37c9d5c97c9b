-- A certified tile costs no more than any congruent surface.
use Rattle.std.proofs.Common.{◌≡◌, ℕ, zero, suc, ◌+◌, ◌*◌, ◌<◌, ◌≤◌, ◌∙◌, ap, refl, arith, Bool, true, false}
use Rattle.std.specs.Prelude.{ℤ, pos, ◌+ℤ◌, ◌-ℤ◌, ◌*ℤ◌, ◌≤ℤ◌, nat_lt, IsTrue, int_div, unsigned_abs, ◌==◌, ◌&&◌, if◌then◌else◌}
use Rattle.std.proofs.lemmas.Int.{ints}
use Rattle.std.proofs.lemmas.Bool.Decides.{nat_tests}
use Rattle.raster_model.specs.declared.edge.Edge.{Edge}
use Rattle.raster_model.specs.Sums.{Field, at_edge_start, at_edge_end, is_edge, sum_edges, right_edge, down_edge}
use Rattle.raster_model.specs.Raster.{Raster, IsCongruent, gradient, round_cell, residue, departure, cycle_departure, has_open_ends, is_inner, over, steps, edge_cost, tile_cost}
use Rattle.raster_model.specs.Certificates.{above, left, face_difference, is_cell, faces_of_tile, face_over, face_over_total, face_bound, face_product, face_total, IsTileCertificate, IsLeastInTile}
use Rattle.raster_model.specs.Best.{CertifiedTilesAreLeast}
use Rattle.raster_model.proofs.PhaseLemmas.{div_exact, edge_exact}
use Rattle.raster_model.proofs.SumLemmas.{sum_grid-same, sum_edges-add, sum_edges-le, right_is_edge, down_is_edge, on_each_edge}
use Rattle.raster_model.proofs.Planar.{planar}
use Rattle.std.proofs.lemmas.Bool.{and_from}
use Rattle.sums_and_lists.proofs.Tests.{and_first, and_second}
use Rattle.sums_and_lists.specs.Sums.{where_true}
use Rattle.raster_model.proofs.Steps.{product_at_most_steps}
use Rattle.sums_and_lists.proofs.SumLemmas.{no_number}

-- whole cycles of a surface above the phase, rounded where it is not congruent
abbrev pub cycles_of : Raster → Field ℤ → Field ℤ
cycles_of r S x y = int_div (S x y -ℤ pos (r.phase x y)) (pos 65536)

pub cycles_exact : (r : Raster) (mask : Field Bool) (S : Field ℤ) → IsCongruent r mask S → (x y : ℕ) → x < r.width → y < r.height → IsTrue (mask x y) → S x y ≡ pos (r.phase x y) +ℤ pos 65536 *ℤ cycles_of r S x y
cycles_exact r mask S h x y l m o =
    let c = h x y l m o in
    let e : S x y -ℤ pos (r.phase x y) ≡ pos 65536 *ℤ c.0 = omega (arith, ints, c.1) in
    rw (e, div_exact c.0) c.1

-- what goes round a cell is its residue
pub residue_is : (r : Raster) (c : Field ℤ) (x y : ℕ) → residue r x y ≡ cycle_departure r c (right_edge x (y + 1)) +ℤ cycle_departure r c (down_edge x y) -ℤ cycle_departure r c (right_edge x y) -ℤ cycle_departure r c (down_edge (x + 1) y)
residue_is r c x y =
    let ab = edge_exact r (right_edge x y) in
    let bd = edge_exact r (down_edge (x + 1) y) in
    let cd = edge_exact r (right_edge x (y + 1)) in
    let ac = edge_exact r (down_edge x y) in
    let e : round_cell r x y ≡ pos 65536 *ℤ (cycle_departure r c (right_edge x (y + 1)) +ℤ cycle_departure r c (down_edge x y) -ℤ cycle_departure r c (right_edge x y) -ℤ cycle_departure r c (down_edge (x + 1) y)) =
    omega (arith, ints, ab, bd, cd, ac) in
    ap (λ (z : ℤ). int_div z (pos 65536)) e ∙ div_exact (cycle_departure r c (right_edge x (y + 1)) +ℤ cycle_departure r c (down_edge x y) -ℤ cycle_departure r c (right_edge x y) -ℤ cycle_departure r c (down_edge (x + 1) y))

-- on an edge whose ends are open it is the departure
pub departure_is : (r : Raster) (S : Field ℤ) (e : Edge) → at_edge_start S e ≡ pos (at_edge_start r.phase e) +ℤ pos 65536 *ℤ at_edge_start (cycles_of r S) e → at_edge_end S e ≡ pos (at_edge_end r.phase e) +ℤ pos 65536 *ℤ at_edge_end (cycles_of r S) e → departure r S e ≡ cycle_departure r (cycles_of r S) e
departure_is r S e p q =
    let t = edge_exact r e in
    let d : at_edge_end S e -ℤ at_edge_start S e -ℤ gradient r e ≡ pos 65536 *ℤ cycle_departure r (cycles_of r S) e = omega (arith, ints, p, q, t) in
    ap (λ (z : ℤ). int_div z (pos 65536)) d ∙ div_exact (cycle_departure r (cycles_of r S) e)

-- ---- one edge
bound : (inner clear : Bool) (k k' d : ℤ) (w q : ℕ) → (inner ≡ true → unsigned_abs d ≤ q * (if clear then w else 0)) → (inner ≡ false → d ≡ pos 0) → (clear ≡ true → k' ≡ k)
    → (k *ℤ d) ≤ℤ (where_true inner (where_true clear (pos ((if clear then w else 0) * steps q k'))) +ℤ where_true inner (pos (over (if clear then w else 0) d)))
bound true true k k' d w q p z e = rw (e refl) (product_at_most_steps k d w q (p refl))
bound true false k k' d w q p z e =
    let none : d ≡ pos 0 = omega (arith, ints, p refl) in
    rw none (omega (arith, ints))
bound false clear k k' d w q p z e = rw (z refl) (omega (arith, ints))

-- ---- an edge that is not inner has no face beside it
off_top : (p q u v a b : Bool) → (u && v) ≡ false → (p && q && u && v && a && b) ≡ false
off_top p q u v a b h = grind arith

off_bottom : (p q u v a b : Bool) → (a && b) ≡ false → (p && q && u && v && a && b) ≡ false
off_bottom p q u v a b h = grind arith

off_left : (p q u v a b : Bool) → (u && a) ≡ false → (p && q && u && v && a && b) ≡ false
off_left p q u v a b h = grind arith

off_right : (p q u v a b : Bool) → (v && b) ≡ false → (p && q && u && v && a && b) ≡ false
off_right p q u v a b h = grind arith

off_width : (p q u v a b : Bool) → p ≡ false → (p && q && u && v && a && b) ≡ false
off_width p q u v a b h = grind arith

off_height : (p q u v a b : Bool) → q ≡ false → (p && q && u && v && a && b) ≡ false
off_height p q u v a b h = grind arith

is_not_lt : (a b : ℕ) → b ≤ a → nat_lt a b ≡ false
is_not_lt a b h = grind (arith, nat_tests)

module _ (r : Raster) (t : ℕ) (f : Field ℤ) where
  pub no_column : (x y : ℕ) → r.width ≤ x + 1 → faces_of_tile r t f x y ≡ pos 0
  no_column x y l = no_number (is_cell r t x y) (f x y) (off_width (nat_lt (x + 1) r.width) (nat_lt (y + 1) r.height) (r.tile x y == t) (r.tile (x + 1) y == t) (r.tile x (y + 1) == t) (r.tile (x + 1) (y + 1) == t) (is_not_lt (x + 1) r.width l))

  pub no_row : (x y : ℕ) → r.height ≤ y + 1 → faces_of_tile r t f x y ≡ pos 0
  no_row x y l = no_number (is_cell r t x y) (f x y) (off_height (nat_lt (x + 1) r.width) (nat_lt (y + 1) r.height) (r.tile x y == t) (r.tile (x + 1) y == t) (r.tile x (y + 1) == t) (r.tile (x + 1) (y + 1) == t) (is_not_lt (y + 1) r.height l))

  below_right : (x y : ℕ) → is_inner r t (right_edge x y) ≡ false → faces_of_tile r t f x y ≡ pos 0
  below_right x y h = no_number (is_cell r t x y) (f x y) (off_top (nat_lt (x + 1) r.width) (nat_lt (y + 1) r.height) (r.tile x y == t) (r.tile (x + 1) y == t) (r.tile x (y + 1) == t) (r.tile (x + 1) (y + 1) == t) h)

  above_right : (x y : ℕ) → is_inner r t (right_edge x y) ≡ false → above (faces_of_tile r t f) x y ≡ pos 0
  above_right x zero h = refl
  above_right x (suc y) h =
      let e : suc y ≡ y + 1 = omega arith in
      no_number (is_cell r t x y) (f x y) (off_bottom (nat_lt (x + 1) r.width) (nat_lt (y + 1) r.height) (r.tile x y == t) (r.tile (x + 1) y == t) (r.tile x (y + 1) == t) (r.tile (x + 1) (y + 1) == t) (rw e at h))

  right_of_down : (x y : ℕ) → is_inner r t (down_edge x y) ≡ false → faces_of_tile r t f x y ≡ pos 0
  right_of_down x y h = no_number (is_cell r t x y) (f x y) (off_left (nat_lt (x + 1) r.width) (nat_lt (y + 1) r.height) (r.tile x y == t) (r.tile (x + 1) y == t) (r.tile x (y + 1) == t) (r.tile (x + 1) (y + 1) == t) h)

  left_of_down : (x y : ℕ) → is_inner r t (down_edge x y) ≡ false → left (faces_of_tile r t f) x y ≡ pos 0
  left_of_down zero y h = refl
  left_of_down (suc x) y h =
      let e : suc x ≡ x + 1 = omega arith in
      no_number (is_cell r t x y) (f x y) (off_right (nat_lt (x + 1) r.width) (nat_lt (y + 1) r.height) (r.tile x y == t) (r.tile (x + 1) y == t) (r.tile x (y + 1) == t) (r.tile (x + 1) (y + 1) == t) (rw e at h))

  -- the edge's part of the sum, at most its part of the cost
  module _ (mask : Field Bool) (S : Field ℤ) (good : IsCongruent r mask S) (S₀ : Field ℤ) (cert : IsTileCertificate r mask t S₀ f) where
    at_edge : Edge → Type 0
    at_edge e = (cycle_departure r (cycles_of r S) e *ℤ face_difference (faces_of_tile r t f) e) ≤ℤ (where_true (is_inner r t e) (edge_cost r mask S e) +ℤ face_over r mask t f e)

    right_part : (x y : ℕ) → x < r.width → y < r.height → x + 1 < r.width → at_edge (right_edge x y)
    unfolding at_edge
    right_part x y l m n =
        bound (is_inner r t (right_edge x y)) (has_open_ends mask (right_edge x y)) (cycle_departure r (cycles_of r S) (right_edge x y)) (departure r S (right_edge x y)) (face_difference (faces_of_tile r t f) (right_edge x y)) (r.weight (right_edge x y)) r.steep
        (λ i. cert.fits (right_edge x y) (and_from (is_edge r.width r.height (right_edge x y)) (is_inner r t (right_edge x y)) (right_is_edge r.width r.height x y l m n) i))
        (λ h. rw (above_right x y h, below_right x y h))
        (λ o. departure_is r S (right_edge x y) (cycles_exact r mask S good x y l m (and_first (mask x y) (mask (x + 1) y) o)) (cycles_exact r mask S good (x + 1) y n m (and_second (mask x y) (mask (x + 1) y) o)))

    down_part : (x y : ℕ) → x < r.width → y < r.height → y + 1 < r.height → at_edge (down_edge x y)
    unfolding at_edge
    down_part x y l m n =
        bound (is_inner r t (down_edge x y)) (has_open_ends mask (down_edge x y)) (cycle_departure r (cycles_of r S) (down_edge x y)) (departure r S (down_edge x y)) (face_difference (faces_of_tile r t f) (down_edge x y)) (r.weight (down_edge x y)) r.steep
        (λ i. cert.fits (down_edge x y) (and_from (is_edge r.width r.height (down_edge x y)) (is_inner r t (down_edge x y)) (down_is_edge r.width r.height x y l m n) i))
        (λ h. rw (right_of_down x y h, left_of_down x y h))
        (λ o. departure_is r S (down_edge x y) (cycles_exact r mask S good x y l m (and_first (mask x y) (mask x (y + 1)) o)) (cycles_exact r mask S good x (y + 1) l n (and_second (mask x y) (mask x (y + 1)) o)))

    total_is : face_total r t f ≡ sum_edges r.width r.height (λ e. cycle_departure r (cycles_of r S) e *ℤ face_difference (faces_of_tile r t f) e)
    unfolding face_total face_product
    total_is =
        sum_grid-same r.width r.height (λ x y. faces_of_tile r t f x y *ℤ residue r x y) (λ x y. faces_of_tile r t f x y *ℤ (cycle_departure r (cycles_of r S) (right_edge x (y + 1)) +ℤ cycle_departure r (cycles_of r S) (down_edge x y) -ℤ cycle_departure r (cycles_of r S) (right_edge x y) -ℤ cycle_departure r (cycles_of r S) (down_edge (x + 1) y))) (λ x y l m. ap (λ (z : ℤ). faces_of_tile r t f x y *ℤ z) (residue_is r (cycles_of r S) x y))
        ∙ planar r.width r.height (faces_of_tile r t f) (cycle_departure r (cycles_of r S)) no_column no_row

    bounded : face_bound r mask t f ≤ℤ tile_cost r mask t S
    unfolding tile_cost face_over_total at_edge
    bounded =
        less _ _ _ _ _ total_is
        (sum_edges-le r.width r.height (λ e. cycle_departure r (cycles_of r S) e *ℤ face_difference (faces_of_tile r t f) e) (λ e. where_true (is_inner r t e) (edge_cost r mask S e) +ℤ face_over r mask t f e) (on_each_edge r.width r.height at_edge right_part down_part))
        (sum_edges-add r.width r.height (λ e. where_true (is_inner r t e) (edge_cost r mask S e)) (face_over r mask t f))
      where
        less : (total sum both cost above : ℤ) → total ≡ sum → sum ≤ℤ both → both ≡ cost +ℤ above → (total -ℤ above) ≤ℤ cost
        less total sum both cost above p q e = omega (arith, ints, p, q, e)

pub least_in_tile : (r : Raster) (mask : Field Bool) (S : Field ℤ) (t : ℕ) (f : Field ℤ) → IsTileCertificate r mask t S f → IsLeastInTile r mask t S
least_in_tile r mask S t f cert S' good = rw cert.equal at (bounded r t f mask S' good S cert)

pub certified_tiles_are_least : CertifiedTilesAreLeast
certified_tiles_are_least r mask t S f cert = least_in_tile r mask S t f cert
