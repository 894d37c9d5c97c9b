-- The rise of the cycles along an edge.
use Rattle.std.proofs.Common.{◌≡◌, ◌∙◌, ℕ, suc, ◌+◌, ◌-◌, ◌*◌, ◌/◌, ◌<◌, ◌≤◌, sym, ap, refl, subst, arith, length, to_z, of_z, w32}
use Rattle.std.specs.Prelude.{ℤ, pos, negsuc, ◌-ℤ◌, int_div, unsigned_abs, slice_index_or, FitsSigned}
use Rattle.std.proofs.lemmas.Int.{ints}
use Rattle.std.proofs.lemmas.List.{get_or_read_under}
use Rattle.raster_model.specs.declared.edge.Edge.{Edge}
use Rattle.raster_model.specs.declared.sheet.Sheet.{Sheet}
use Rattle.raster_model.specs.declared.tiling.Window.{Window}
use Rattle.raster_model.specs.Phase.{turns_by}
use Rattle.raster_model.specs.Planes.{plane_sample}
use Rattle.raster_model.specs.Raster.{gradient, turns_of}
use Rattle.raster_model.specs.Sheets.{sheet_raster}
use Rattle.raster_model.specs.Sums.{end_x, end_y, right_edge, down_edge}
use Rattle.raster_model.specs.Terms.{slope_of}
use Rattle.raster_model.proofs.PhaseLemmas.{edge_exact, slope_in_range, turns_small}
use Rattle.wrapped_gradient.specs.declared.corrections.Corrections.{Corrections}
use Rattle.wrapped_gradient.specs.Corrections.{HasShapeOf, correction_at, greatest_of}
use Rattle.wrapped_gradient.specs.Gradients.{AreGradientsOf, gradient_at}
use Rattle.wrapped_gradient.specs.GradientsView.{GradientsView}
use Rattle.wrapped_gradient.proofs.CorrectionLemmas.{correction_within}
use Rattle.wrapped_gradient.proofs.GradientLemmas.{right_edge_of, down_edge_of}
use Rattle.wrapped_gradient.proofs.Places.{place_under, right_number}
use Rattle.surface_integration.specs.Cycles.{AreSmall}
use Rattle.surface_integration.specs.Rows.{rise_of}

-- as code adds it up, at 32 bits
pub difference_fits : (a b : ℕ) (p q d : ℤ) → p ≡ pos a → q ≡ pos b → unsigned_abs (pos b -ℤ pos a -ℤ d) ≤ 131071 → a < 65536 → b < 65536 → FitsSigned w32 (to_z w32 (of_z w32 (to_z w32 (of_z w32 q) -ℤ to_z w32 (of_z w32 p))) -ℤ to_z w32 (of_z w32 d))
difference_fits a b p q d ep eq near l m = omega (arith, ints, ep, eq, near)

-- a quotient that is at most one cycle
pub quotient_small : (z : ℤ) → unsigned_abs z ≤ 131071 → unsigned_abs (int_div z (pos 65536)) ≤ 1
quotient_small (pos n) h = omega arith
quotient_small (negsuc n) h = let e : suc n / 65536 ≤ 1 = omega arith in omega (arith, ints, e)

pub quotient_at : (a b : ℕ) (p q d : ℤ) → p ≡ pos a → q ≡ pos b → unsigned_abs (pos b -ℤ pos a -ℤ d) ≤ 131071 → a < 65536 → b < 65536 → to_z w32 (of_z w32 (int_div (to_z w32 (of_z w32 (to_z w32 (of_z w32 (to_z w32 (of_z w32 q) -ℤ to_z w32 (of_z w32 p))) -ℤ to_z w32 (of_z w32 d)))) (pos 65536))) ≡ int_div (pos b -ℤ pos a -ℤ d) (pos 65536)
quotient_at a b p q d ep eq near l m =
    let inner : to_z w32 (of_z w32 (to_z w32 (of_z w32 (to_z w32 (of_z w32 q) -ℤ to_z w32 (of_z w32 p))) -ℤ to_z w32 (of_z w32 d))) ≡ pos b -ℤ pos a -ℤ d = omega (arith, ints, ep, eq, near) in
    rw inner (fits (int_div (pos b -ℤ pos a -ℤ d) (pos 65536)) (quotient_small (pos b -ℤ pos a -ℤ d) near))
  where
    fits : (z : ℤ) → unsigned_abs z ≤ 1 → to_z w32 (of_z w32 z) ≡ z
    fits z k = omega (arith, ints)

pub rise_fits : (k t u : ℤ) → u ≡ t → unsigned_abs t ≤ 1 → unsigned_abs k < 2147483647 → FitsSigned w32 (to_z w32 (of_z w32 k) -ℤ u)
rise_fits k t u e s l = rw e (omega (arith, ints, s, l))

pub rise_is : (k t u : ℤ) → u ≡ t → unsigned_abs t ≤ 1 → unsigned_abs k < 2147483647 → to_z w32 (of_z w32 (to_z w32 (of_z w32 k) -ℤ u)) ≡ k -ℤ t
rise_is k t u e s l = rw e (omega (arith, ints, s, l))

pub rise_bounded : (k t : ℤ) → unsigned_abs t ≤ 1 → unsigned_abs (k -ℤ t) ≤ unsigned_abs k + 1
rise_bounded k t s = omega (arith, ints, s)

-- small corrections leave room for one more
pub greatest_small : (v : Window) (k : Corrections) → AreSmall v k → greatest_of k < 2147483646
greatest_small v k h = two_sides (v.x1 - v.x0) (v.y1 - v.y0) (greatest_of k) h
  where
    two_sides : (w h b : ℕ) → (w + 1 + (h + 1)) * (b + 1) ≤ 2147483647 → b < 2147483646
    two_sides w h b l = grind arith

-- a rise in code at more bits is the same
pub rise_widened : (k : Corrections) (d u : ℤ) → greatest_of k < 2147483647 → unsigned_abs d ≤ greatest_of k + 1 → u ≡ to_z w32 (of_z w32 d) → (u ≡ d) × (unsigned_abs u ≤ greatest_of k + 1)
rise_widened k d u small l e = (omega (arith, ints, small, l, e), omega (arith, ints, small, l, e))

-- the phases of a sheet have 16 bits, so the wrapped difference of an edge leaves out at most one cycle
phase_small : (s : Sheet) (x y : ℕ) → plane_sample s.phase.now x y < 65536
phase_small s x y = let h = s.phase.now.below (y * s.phase.now.width + x) in omega (arith, h, s.cycle)

pub turns_of_small : (s : Sheet) (e : Edge) → unsigned_abs (turns_of (sheet_raster s) e) ≤ 1
turns_of_small s e = turns_small (slope_of s.terms e.down) (plane_sample s.phase.now e.x e.y) (plane_sample s.phase.now (end_x e) (end_y e)) (slope_in_range s.terms e.down) (phase_small s e.x e.y) (phase_small s (end_x e) (end_y e))

-- what it leaves, as code reads it
module _ (s : Sheet) (e : Edge) (a b : ℕ) (d : ℤ) (start : a ≡ plane_sample s.phase.now e.x e.y) (end : b ≡ plane_sample s.phase.now (end_x e) (end_y e)) (wrapped : d ≡ gradient (sheet_raster s) e) where
  pub left_near : unsigned_abs (pos b -ℤ pos a -ℤ d) ≤ 131071
  left_near =
      let t = edge_exact (sheet_raster s) e in
      rw (start, end, wrapped) (omega (arith, ints, t, turns_of_small s e))

  pub left_out : int_div (pos b -ℤ pos a -ℤ d) (pos 65536) ≡ turns_of (sheet_raster s) e
  unfolding turns_by
  left_out = rw (start, end, wrapped) refl

  pub rise_told : (v : Window) (k : Corrections) (z t : ℤ) → z ≡ correction_at v k e → t ≡ z -ℤ int_div (pos b -ℤ pos a -ℤ d) (pos 65536) → t ≡ rise_of (sheet_raster s) v k e
  rise_told v k z t held made = made ∙ rw (held, left_out) refl

module _ (s : Sheet) (g : GradientsView) (k : Corrections) where
  -- what the lists hold for an edge
  pub correction_right : (v : Window) (x y : ℕ) (z : ℤ) → HasShapeOf g.window k → v ≡ g.window → (g.window.x0 ≤ x) × (x < g.window.x1) → (g.window.y0 ≤ y) × (y ≤ g.window.y1) → z ≡ slice_index_or k.right.items ((y - v.y0) * (v.x1 - v.x0) + (x - v.x0)) z → z ≡ correction_at g.window k (right_edge x y)
  correction_right v x y z shape e across along read =
      let w = g.window in
      let there : z ≡ slice_index_or k.right.items ((y - w.y0) * (w.x1 - w.x0) + (x - w.x0)) z = subst (λ (u : Window). z ≡ slice_index_or k.right.items ((y - u.y0) * (u.x1 - u.x0) + (x - u.x0)) z) e read in
      let full : length k.right.items ≡ (w.x1 - w.x0) * (w.y1 - w.y0 + 1) = shape.0 ∙ ap (λ (n : ℕ). n * (w.y1 - w.y0 + 1)) (omega arith) in
      let within : (y - w.y0) * (w.x1 - w.x0) + (x - w.x0) < length k.right.items = place_under _ _ _ _ _ full (omega (arith, along)) (omega (arith, across)) in
      get_or_read_under k.right.items _ (length k.right.items) z (pos 0) there within refl_length ∙ sym (right_number w k.right.items k.down.items x y)
    where
      refl_length : length k.right.items ≡ length k.right.items
      refl_length = omega arith

  pub correction_down : (v : Window) (x y : ℕ) (z : ℤ) → HasShapeOf g.window k → v ≡ g.window → (g.window.x0 ≤ x) × (x ≤ g.window.x1) → (g.window.y0 ≤ y) × (y < g.window.y1) → z ≡ slice_index_or k.down.items ((y - v.y0) * (v.x1 - v.x0 + 1) + (x - v.x0)) z → z ≡ correction_at g.window k (down_edge x y)
  correction_down v x y z shape e across along read =
      let w = g.window in
      let there : z ≡ slice_index_or k.down.items ((y - w.y0) * (w.x1 - w.x0 + 1) + (x - w.x0)) z = subst (λ (u : Window). z ≡ slice_index_or k.down.items ((y - u.y0) * (u.x1 - u.x0 + 1) + (x - u.x0)) z) e read in
      let full : length k.down.items ≡ (w.x1 - w.x0 + 1) * (w.y1 - w.y0) = shape.1 ∙ ap (λ (n : ℕ). (w.x1 - w.x0 + 1) * n) (omega arith) in
      let within : (y - w.y0) * (w.x1 - w.x0 + 1) + (x - w.x0) < length k.down.items = place_under _ _ _ _ _ full (omega (arith, along)) (omega (arith, across)) in
      get_or_read_under k.down.items _ (length k.down.items) z (pos 0) there within refl_length
    where
      refl_length : length k.down.items ≡ length k.down.items
      refl_length = omega arith

  pub right_gradient : (x y : ℕ) (z : ℤ) → AreGradientsOf (sheet_raster s) g → (g.window.x0 ≤ x) × (x < g.window.x1) → (g.window.y0 ≤ y) × (y ≤ g.window.y1) → z ≡ gradient_at g (right_edge x y) → z ≡ gradient (sheet_raster s) (right_edge x y)
  right_gradient x y z h across along e = e ∙ h.differences (right_edge x y) (right_edge_of g.window x y across.0 across.1 along.0 along.1)

  pub down_gradient : (x y : ℕ) (z : ℤ) → AreGradientsOf (sheet_raster s) g → (g.window.x0 ≤ x) × (x ≤ g.window.x1) → (g.window.y0 ≤ y) × (y < g.window.y1) → z ≡ gradient_at g (down_edge x y) → z ≡ gradient (sheet_raster s) (down_edge x y)
  down_gradient x y z h across along e = e ∙ h.differences (down_edge x y) (down_edge_of g.window x y across.0 across.1 along.0 along.1)

-- a correction is small, and so is a rise
pub correction_small : (v : Window) (k : Corrections) (e : Edge) (z : ℤ) → greatest_of k < 2147483647 → z ≡ correction_at v k e → unsigned_abs z < 2147483647
correction_small v k e z h q =
    let p = subst (λ (u : ℤ). unsigned_abs u ≤ greatest_of k) (sym q) (correction_within v k e) in
    omega (arith, p, h)

pub below_greatest : (v : Window) (k : Corrections) (e : Edge) (z : ℤ) (n : ℕ) → z ≡ correction_at v k e → n ≤ unsigned_abs z + 1 → n ≤ greatest_of k + 1
below_greatest v k e z n q l =
    let p = subst (λ (u : ℤ). unsigned_abs u ≤ greatest_of k) (sym q) (correction_within v k e) in
    omega (arith, p, l)
