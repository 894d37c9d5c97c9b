-- Faces that are all 0 fit at every edge, and add up to 0.
use Rattle.std.proofs.Common.{◌≡◌, refl, ℕ, zero, suc, ◌<◌, ◌≤◌, arith, Bool, true, false, inl, inr, List, length}
use Rattle.std.specs.Prelude.{◌⊎◌, if◌then◌else◌, ℤ, pos, ◌-ℤ◌, ◌*ℤ◌, slice_index_or}
use Rattle.std.proofs.lemmas.Int.{ints}
use Rattle.std.proofs.lemmas.List.{get_or_past}
use Rattle.raster_model.specs.declared.edge.Edge.{Edge}
use Rattle.raster_model.specs.Sums.{Field, sum_row}
use Rattle.raster_model.specs.Raster.{Raster, residue}
use Rattle.raster_model.specs.Certificates.{before, above, left, is_cell, face_difference, faces_of_tile, face_bound, face_product, face_total, FacesFit}
use Rattle.raster_model.specs.Cells.{cells_before, face_at}
use Rattle.raster_model.proofs.Unsteep.{no_face_over}
use Rattle.certificates.specs.Growth.{AreZeros}
use Rattle.sums_and_lists.specs.Sums.{where_true}
use Rattle.sums_and_lists.proofs.SumLemmas.{sum_below-zeros}

pub read_zero : (numbers : List ℤ) → AreZeros numbers → (k : ℕ) → slice_index_or numbers k (pos 0) ≡ pos 0
read_zero numbers zeros k = elim (below k) [ inl l ↦ zeros k l | inr l ↦ get_or_past numbers k (pos 0) l ]
  where
    below : (k : ℕ) → (k < length numbers) ⊎ (length numbers ≤ k)
    below k = grind arith

module _ (r : Raster) (t : ℕ) (faces : List ℤ) (zeros : AreZeros faces) where
  face : (x y : ℕ) → faces_of_tile r t (face_at r t faces) x y ≡ pos 0
  unfolding face_at
  face x y = none (is_cell r t x y)
    where
      none : (b : Bool) → where_true b (slice_index_or faces (cells_before r t x y) (pos 0)) ≡ pos 0
      none true = read_zero faces zeros (cells_before r t x y)
      none false = refl

  none_before : (f : ℕ → ℤ) (n : ℕ) → ((k : ℕ) → f k ≡ pos 0) → before f n ≡ pos 0
  none_before f zero h = refl
  none_before f (suc n) h = h n

  difference : (e : Edge) → face_difference (faces_of_tile r t (face_at r t faces)) e ≡ pos 0
  difference e = by e.down
    where
      f : Field ℤ
      f = faces_of_tile r t (face_at r t faces)

      by : (down : Bool) → (if down then f e.x e.y -ℤ left f e.x e.y else above f e.x e.y -ℤ f e.x e.y) ≡ pos 0
      by true = rw (face e.x e.y, none_before (λ i. f i e.y) e.x (λ i. face i e.y)) refl
      by false = rw (face e.x e.y, none_before (f e.x) e.y (face e.x)) refl

  pub zeros_fit : (mask : Field Bool) (e : Edge) → FacesFit r mask t (face_at r t faces) e
  zeros_fit mask e = rw (difference e) (omega arith)

  product : (x y : ℕ) → face_product r t (face_at r t faces) x y ≡ pos 0
  unfolding face_product
  product x y = rw (face x y) (no_times (residue r x y))
    where
      no_times : (z : ℤ) → pos 0 *ℤ z ≡ pos 0
      no_times z = omega (arith, ints)

  zeros_total : face_total r t (face_at r t faces) ≡ pos 0
  unfolding face_total
  zeros_total = sum_below-zeros r.height (sum_row r.width (face_product r t (face_at r t faces))) (λ y m. sum_below-zeros r.width (λ x. face_product r t (face_at r t faces) x y) (λ x l. product x y))

  pub zeros_bound : (mask : Field Bool) → pos 0 ≡ face_bound r mask t (face_at r t faces)
  zeros_bound mask = less _ _ zeros_total (no_face_over r mask t (face_at r t faces) (λ e i. rw (difference e) (omega arith)))
    where
      less : (a b : ℤ) → a ≡ pos 0 → b ≡ pos 0 → pos 0 ≡ a -ℤ b
      less a b p q = omega (arith, ints, p, q)
