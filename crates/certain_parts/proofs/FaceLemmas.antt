-- The faces of a whole raster as code reads them.
use Rattle.std.proofs.Common.{◌≡◌, ◌∙◌, ℕ, zero, suc, ◌+◌, ◌-◌, ◌*◌, ◌<◌, ◌≤◌, ap, sym, refl, arith, true, false, List, length}
use Rattle.std.specs.Prelude.{ℤ, pos, ◌-ℤ◌, slice_index_or}
use Rattle.std.proofs.lemmas.Nat.{mul-add-lt}
use Rattle.raster_model.specs.declared.edge.Edge.{Edge}
use Rattle.raster_model.specs.declared.tiling.Window.{Window}
use Rattle.raster_model.specs.Cells.{face_at}
use Rattle.raster_model.specs.Certificates.{above, before, face_difference, left}
use Rattle.raster_model.specs.Order.{IsCellAt}
use Rattle.raster_model.specs.Raster.{Raster}
use Rattle.raster_model.specs.Sums.{Field}
use Rattle.raster_model.specs.Tiles.{IsTileWindow}
use Rattle.raster_model.specs.Whole.{whole_of}
use Rattle.raster_model.proofs.TileCells.{cell_count-is, cells_before-is, face_inside, face_outside}
use Rattle.raster_model.proofs.Windows.{whole_window}
use Rattle.certain_parts.specs.Faces.{face_over}
use Rattle.certain_parts.specs.MarginWords.{HasFaces}

module _ (r : Raster) (faces : List ℤ) (wide : 1 ≤ r.width) (high : 1 ≤ r.height) where
  abbrev v : Window
  v = record { x0 = 0; y0 = 0; x1 = r.width - 1; y1 = r.height - 1 }

  whole : IsTileWindow (whole_of r) 0 v
  whole = whole_window r v refl refl (omega (arith, wide)) (omega (arith, high))

  -- a corner of the window is 0
  from_zero : (n : ℕ) → n - 0 ≡ n
  from_zero n = omega arith

  pub face_place : (x y : ℕ) → x < r.width - 1 → y < r.height - 1 → HasFaces r faces → y * (r.width - 1) + x < length faces
  face_place x y l m e =
      let count : length faces ≡ (r.height - 1) * (r.width - 1) = rw (from_zero (r.height - 1), from_zero (r.width - 1)) at (e ∙ cell_count-is (whole_of r) 0 v whole) in
      let inside = mul-add-lt y (r.width - 1) x (r.height - 1) m l in
      let turned : (r.width - 1) * (r.height - 1) ≡ (r.height - 1) * (r.width - 1) = omega arith in
      omega (arith, count, inside, turned)

  pub face_read : (x y : ℕ) → x < r.width - 1 → y < r.height - 1 → slice_index_or faces (y * (r.width - 1) + x) (pos 0) ≡ face_over r faces x y
  unfolding face_at
  face_read x y l m =
      let c : IsCellAt v x y = (omega arith, l, omega arith, m) in
      ap (λ (n : ℕ). slice_index_or faces n (pos 0)) (sym (rw (from_zero y, from_zero x, from_zero (r.width - 1)) at (cells_before-is (whole_of r) 0 v whole x y c)))
      ∙ sym (face_inside (whole_of r) 0 v whole (face_at (whole_of r) 0 faces) x y c)

  pub no_face : (x y : ℕ) → (x < r.width - 1 → y < r.height - 1 → ⊥) → pos 0 ≡ face_over r faces x y
  no_face x y n = sym (face_outside (whole_of r) 0 v whole (face_at (whole_of r) 0 faces) x y (λ c. n c.1 c.3))

-- what stands before a place that is not the first
pub before-pred : (f : ℕ → ℤ) (n : ℕ) (z : ℤ) → (n ≡ 0 → ⊥) → z ≡ f (n - 1) → z ≡ before f n
before-pred f zero z l e = absurd (l refl)
before-pred f (suc n) z l e = e ∙ ap f (omega arith)

pub step_down : (f : Field ℤ) (e : Edge) (a b : ℤ) → e.down ≡ true → a ≡ f e.x e.y → b ≡ left f e.x e.y → a -ℤ b ≡ face_difference f e
step_down f e a b d p q = rw (d, p, q) refl

pub step_right : (f : Field ℤ) (e : Edge) (a b : ℤ) → e.down ≡ false → a ≡ above f e.x e.y → b ≡ f e.x e.y → a -ℤ b ≡ face_difference f e
step_right f e a b d p q = rw (d, p, q) refl
