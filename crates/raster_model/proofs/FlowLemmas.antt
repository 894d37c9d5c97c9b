-- The places of seam edges.
use Rattle.std.proofs.Common.{◌≡◌, ℕ, ◌+◌, ◌<◌, ◌≤◌, refl, arith, Bool, true, false}
use Rattle.raster_model.specs.declared.edge.Edge.{Edge}
use Rattle.raster_model.specs.Sums.{right_edge, down_edge}
use Rattle.raster_model.specs.Raster.{Raster}
use Rattle.raster_model.specs.Flows.{is_seam_edge, seams_from, seams_in_row, seams_before, seam_count, seam_place}
use Rattle.sums_and_lists.specs.Sums.{one_if}
use Rattle.sums_and_lists.proofs.CountLemmas.{count_below-more, count_below-none, count_below-le}

-- the next pixel, and the next row
pub before-next : (r : Raster) (x y : ℕ) → seams_before r (x + 1) y ≡ seams_before r x y + seams_from r x y
before-next r x y = omega (arith, count_below-more x (λ i. seams_from r i y))

pub before-row : (r : Raster) (y : ℕ) → seams_before r 0 (y + 1) ≡ seams_before r r.width y
before-row r y = omega (arith, count_below-more y (seams_in_row r r.width), count_below-none (λ i. seams_from r i (y + 1)))

before-end : (r : Raster) (x y : ℕ) → x < r.width → y < r.height → seams_before r (x + 1) y ≤ seam_count r
unfolding seam_count
before-end r x y l m =
    omega (arith, count_below-le (x + 1) r.width (λ i. seams_from r i y) (omega arith), before-row r y, count_below-le (y + 1) r.height (seams_in_row r r.width) (omega arith), count_below-none (λ i. seams_from r i (y + 1)), count_below-none (λ i. seams_from r i r.height))

pub place-right : (r : Raster) (x y : ℕ) → seam_place r (right_edge x y) ≡ seams_before r x y
unfolding seam_place
place-right r x y = omega arith

pub place-down : (r : Raster) (x y : ℕ) → seam_place r (down_edge x y) ≡ seams_before r x y + one_if (is_seam_edge r (right_edge x y))
unfolding seam_place
place-down r x y = refl

-- a seam edge has a place in the list
pub place_below : (r : Raster) (e : Edge) → e.x < r.width → e.y < r.height → seam_place r e + one_if (is_seam_edge r e) ≤ seam_count r
place_below r e l m = go e.down
  where
    go : (d : Bool) → seam_place r (record { x = e.x; y = e.y; down = d }) + one_if (is_seam_edge r (record { x = e.x; y = e.y; down = d })) ≤ seam_count r
    go true = omega (arith, place-down r e.x e.y, before-next r e.x e.y, before-end r e.x e.y l m)
    go false = omega (arith, place-right r e.x e.y, before-next r e.x e.y, before-end r e.x e.y l m)

pub before-none : (r : Raster) → 0 ≡ seams_before r 0 0
before-none r = omega (arith, count_below-none (seams_in_row r r.width), count_below-none (λ i. seams_from r i 0))
