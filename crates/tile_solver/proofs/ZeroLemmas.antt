-- Corrections and faces that are all 0 answer a tile without a residue.
use Rattle.std.proofs.Common.{◌≡◌, ℕ, zero, suc, ◌+◌, ◌-◌, ◌*◌, ◌∙◌, sym, subst, ap, refl, arith, Bool, true, false, List, length, replicate}
use Rattle.std.specs.Prelude.{ℤ, pos, ◌-ℤ◌, slice_index_or}
use Rattle.std.proofs.lemmas.Int.{ints}
use Rattle.std.proofs.lemmas.List.{length-replicate}
use Rattle.std.proofs.Math.Nat.{mul_comm}
use Rattle.raster_model.specs.declared.edge.Edge.{Edge}
use Rattle.raster_model.specs.declared.scene.Scene.{Scene}
use Rattle.raster_model.specs.declared.tiling.Window.{Window}
use Rattle.raster_model.specs.Cells.{cells_before, face_at}
use Rattle.raster_model.specs.Certificates.{FacesFit, above, face_difference, face_over, face_over_total, face_product, face_total, faces_of_tile, is_cell, left}
use Rattle.raster_model.specs.Raster.{is_inner, masked_weight, steps}
use Rattle.raster_model.specs.Scene.{raster_of}
use Rattle.raster_model.specs.Sums.{Field, sum_row}
use Rattle.raster_model.specs.Tiles.{IsWindowOf}
use Rattle.raster_model.proofs.SumLemmas.{sum_edges-same, sum_edges-zeros}
use Rattle.raster_model.proofs.Steps.{no_steps}
use Rattle.raster_model.proofs.TileCells.{cell_count-is}
use Rattle.raster_model.proofs.TileLemmas.{scene_window, window_of-pixels}
use Rattle.wrapped_gradient.specs.declared.corrections.Corrections.{Corrections}
use Rattle.wrapped_gradient.specs.Corrections.{HasShapeOf, correction_at}
use Rattle.wrapped_gradient.specs.GradientsView.{GradientsView}
use Rattle.wrapped_gradient.proofs.CorrectionLemmas.{correction_within}
use Rattle.surface_integration.proofs.CallerLemmas.{AreZero, repeated_zero, zeros_cancel, zeros_greatest}
use Rattle.dual_grid.specs.Answers.{AreCertifiedCorrections, correction_cost}
use Rattle.tile_solver.specs.Zeros.{IsWithoutResidue}
use Rattle.sums_and_lists.specs.Sums.{where_true}
use Rattle.sums_and_lists.proofs.SumLemmas.{sum_below-zeros, where_true-zero}

-- a correction for each edge of the window and a face for each of its cells, all of them 0
pub record AreZeros (v : Window) (k : Corrections) (faces : List ℤ) : Type 0 where
  pub shape : HasShapeOf v k
  pub corrections : AreZero k
  pub count : length faces ≡ (v.y1 - v.y0) * (v.x1 - v.x0)
  pub each_face : (i : ℕ) → slice_index_or faces i (pos 0) ≡ pos 0

-- lists that repeat 0 as often are these
pub repeated_zeros : (v : Window) (k : Corrections) (faces : List ℤ) → k.right.items ≡ replicate ((v.x1 - v.x0) * (v.y1 - v.y0 + 1)) (pos 0) → k.down.items ≡ replicate ((v.x1 - v.x0 + 1) * (v.y1 - v.y0)) (pos 0) → faces ≡ replicate ((v.x1 - v.x0) * (v.y1 - v.y0)) (pos 0) → AreZeros v k faces
repeated_zeros v k faces rights downs zeros =
    let one_less : v.x1 - v.x0 ≡ v.x1 - v.x0 + 1 - 1 = omega arith in
    let one_row_less : v.y1 - v.y0 ≡ v.y1 - v.y0 + 1 - 1 = omega arith in
    record {
      shape = (
        ap length rights ∙ length-replicate ((v.x1 - v.x0) * (v.y1 - v.y0 + 1)) (pos 0) ∙ ap (λ (n : ℕ). n * (v.y1 - v.y0 + 1)) one_less,
        ap length downs ∙ length-replicate ((v.x1 - v.x0 + 1) * (v.y1 - v.y0)) (pos 0) ∙ ap (λ (n : ℕ). (v.x1 - v.x0 + 1) * n) one_row_less,
      );
      corrections = record { rights = repeated_zero _ _ rights; downs = repeated_zero _ _ downs };
      count = ap length zeros ∙ length-replicate ((v.x1 - v.x0) * (v.y1 - v.y0)) (pos 0) ∙ mul_comm (v.x1 - v.x0) (v.y1 - v.y0);
      each_face = repeated_zero _ _ zeros;
    }

-- a field that is 0 everywhere differs nowhere
level : (f : Field ℤ) → ((x y : ℕ) → f x y ≡ pos 0) → (e : Edge) → face_difference f e ≡ pos 0
level f z e = go e.x e.y e.down
  where
    above_zero : (x y : ℕ) → above f x y ≡ pos 0
    above_zero x zero = refl
    above_zero x (suc y) = z x y

    left_zero : (x y : ℕ) → left f x y ≡ pos 0
    left_zero zero y = refl
    left_zero (suc x) y = z x y

    go : (x y : ℕ) (d : Bool) → face_difference f (record { x = x; y = y; down = d }) ≡ pos 0
    go x y true = rw (z x y, left_zero x y) refl
    go x y false = rw (above_zero x y, z x y) refl

-- an edge adds nothing
nothing_there : (inner : Bool) (n : ℕ) → n ≡ 0 → where_true inner (pos n) ≡ pos 0
nothing_there inner n e = ap (λ (n : ℕ). where_true inner (pos n)) e ∙ where_true-zero inner

-- an edge without a correction costs nothing
edge_free : (inner : Bool) (w d : ℕ) → d ≡ 0 → where_true inner (pos (w * d)) ≡ pos 0
edge_free inner w d e = nothing_there inner (w * d) (rw e (omega arith))

module _ (s : Scene) (t : ℕ) (mask : Field Bool) (g : GradientsView) (without : IsWithoutResidue s t g) (k : Corrections) (faces : List ℤ) (zeros : AreZeros g.window k faces) where
  window : IsWindowOf s.tiling t g.window
  window = subst (λ (v : Window). IsWindowOf s.tiling t v) (sym without.window) (window_of-pixels s.tiling t without.tile)

  face_zero : (x y : ℕ) → faces_of_tile (raster_of s) t (face_at (raster_of s) t faces) x y ≡ pos 0
  unfolding face_at
  face_zero x y =
      ap (λ (z : ℤ). where_true (is_cell (raster_of s) t x y) z) (zeros.each_face (cells_before (raster_of s) t x y))
      ∙ where_true-zero (is_cell (raster_of s) t x y)

  faces_fit : (e : Edge) → FacesFit (raster_of s) mask t (face_at (raster_of s) t faces) e
  faces_fit e = rw (level (faces_of_tile (raster_of s) t (face_at (raster_of s) t faces)) face_zero e) (omega (arith, ints))

  no_total : face_total (raster_of s) t (face_at (raster_of s) t faces) ≡ pos 0
  unfolding face_total face_product
  no_total =
      let r = raster_of s in
      let f = face_product r t (face_at r t faces) in
      sum_below-zeros r.height (sum_row r.width f) (λ y m. sum_below-zeros r.width (λ x. f x y) (λ x l. rw (face_zero x y) (omega (arith, ints))))

  uncorrected : (e : Edge) → steps (raster_of s).steep (correction_at g.window k e) ≡ 0
  uncorrected e = no_steps (raster_of s).steep (correction_at g.window k e) (omega (arith, ints, correction_within g.window k e, zeros_greatest k zeros.corrections))

  nothing_over : face_over_total (raster_of s) mask t (face_at (raster_of s) t faces) ≡ pos 0
  unfolding face_over_total
  nothing_over =
      let r = raster_of s in
      sum_edges-same r.width r.height (face_over r mask t (face_at r t faces)) (λ e. pos 0)
      (λ e i. rw (level (faces_of_tile r t (face_at r t faces)) face_zero e) (nothing_there (is_inner r t e) (0 - masked_weight r mask e) (omega arith)))
      ∙ sum_edges-zeros r.width r.height

  no_cost : correction_cost (raster_of s) mask t g.window k ≡ pos 0
  unfolding correction_cost
  no_cost =
      let r = raster_of s in
      sum_edges-same r.width r.height (λ e. where_true (is_inner r t e) (pos (masked_weight r mask e * steps r.steep (correction_at g.window k e)))) (λ e. pos 0)
      (λ e i. edge_free (is_inner r t e) (masked_weight r mask e) (steps r.steep (correction_at g.window k e)) (uncorrected e))
      ∙ sum_edges-zeros r.width r.height

  pub zeros_answer : AreCertifiedCorrections (raster_of s) mask t g.window k faces
  zeros_answer = record {
    shape = zeros.shape;
    cancel = zeros_cancel (raster_of s) g k without.differences without.none zeros.corrections;
    small = omega (arith, zeros_greatest k zeros.corrections);
    count = zeros.count ∙ sym (cell_count-is (raster_of s) t g.window (scene_window s t g.window window));
    fits = λ e i. faces_fit e;
    equal = none (face_total (raster_of s) t (face_at (raster_of s) t faces)) (face_over_total (raster_of s) mask t (face_at (raster_of s) t faces)) (correction_cost (raster_of s) mask t g.window k) no_total nothing_over no_cost;
  }
    where
      none : (total above cost : ℤ) → total ≡ pos 0 → above ≡ pos 0 → cost ≡ pos 0 → total -ℤ above ≡ cost
      none total above cost p q e = omega (arith, ints, p, q, e)
