-- For callers whose window has no residue and whose corrections are all 0: what `integrate` asks then holds, and over the whole raster its surface is the best.
use Rattle.std.proofs.Common.{◌≡◌, ◌∙◌, ℕ, ◌+◌, ◌-◌, ◌*◌, ◌≤◌, sym, arith, Bool, true, false, List, replicate, inl, inr}
use Rattle.std.specs.Prelude.{ℤ, pos, neg_ℤ, ◌+ℤ◌, ◌-ℤ◌, IsTrue, slice_index_or}
use Rattle.std.proofs.lemmas.Int.{ints}
use Rattle.std.proofs.lemmas.List.{get_or-replicate, get_or_past, length-replicate}
use Rattle.raster_model.specs.declared.edge.Edge.{Edge}
use Rattle.raster_model.specs.declared.tiling.Window.{Window}
use Rattle.raster_model.specs.Best.{HasNoDepartures, IsBest}
use Rattle.raster_model.specs.Limits.{max_side}
use Rattle.raster_model.specs.Raster.{Raster, lifted, residue, tile_cost, seam_cost}
use Rattle.raster_model.specs.Sums.{Field, end_x, end_y, is_edge, right_edge, down_edge}
use Rattle.raster_model.proofs.Exact.{lifted_is_congruent}
use Rattle.raster_model.proofs.Flat.{no_departures_are_best, tile_cost-flat, seam_cost-flat}
use Rattle.wrapped_gradient.specs.declared.corrections.Corrections.{Corrections}
use Rattle.wrapped_gradient.specs.Corrections.{CancelResidues, correction_at, greatest_of}
use Rattle.wrapped_gradient.specs.Gradients.{AreGradientsOf, HasNoResidue}
use Rattle.wrapped_gradient.specs.GradientsView.{GradientsView}
use Rattle.raster_model.specs.Tiles.{width_of}
use Rattle.wrapped_gradient.specs.Windows.{IsEdgeOf}
use Rattle.wrapped_gradient.proofs.CorrectionLemmas.{greatest_of_least}
use Rattle.wrapped_gradient.proofs.GradientLemmas.{residues_are}
use Rattle.surface_integration.specs.Cycles.{AreSmall, DepartBy}
use Rattle.sums_and_lists.proofs.Orders.{ends_in}
use Rattle.std.proofs.lemmas.Bool.{cases_lt}

-- every correction is 0
pub record AreZero (k : Corrections) : Type 0 where
  pub rights : (i : ℕ) → slice_index_or k.right.items i (pos 0) ≡ pos 0
  pub downs : (i : ℕ) → slice_index_or k.down.items i (pos 0) ≡ pos 0

-- as they are where the lists repeat 0
pub repeated_zero : (n : ℕ) (zs : List ℤ) → zs ≡ replicate n (pos 0) → (i : ℕ) → slice_index_or zs i (pos 0) ≡ pos 0
repeated_zero n zs e i = rw e (elim (cases_lt i n) [ inl l ↦ get_or-replicate n i (pos 0) (pos 0) l | inr l ↦ get_or_past (replicate n (pos 0)) i (pos 0) (simp length-replicate l) ])

zero_at : (v : Window) (k : Corrections) → AreZero k → (e : Edge) → correction_at v k e ≡ pos 0
zero_at v k z e = go e.x e.y e.down
  where
    go : (x y : ℕ) (d : Bool) → correction_at v k (record { x = x; y = y; down = d }) ≡ pos 0
    go x y true = z.downs ((y - v.y0) * width_of v + (x - v.x0))
    go x y false = z.rights ((y - v.y0) * (width_of v - 1) + (x - v.x0))

-- they cancel residues that are all 0
pub zeros_cancel : (r : Raster) (g : GradientsView) (k : Corrections) → AreGradientsOf r g → HasNoResidue g → AreZero k → CancelResidues r g.window k
zeros_cancel r g k h none z x y i =
    nothing (correction_at g.window k (right_edge x y)) (correction_at g.window k (down_edge (x + 1) y)) (correction_at g.window k (right_edge x (y + 1))) (correction_at g.window k (down_edge x y)) (residue r x y)
    (zero_at g.window k z (right_edge x y)) (zero_at g.window k z (down_edge (x + 1) y)) (zero_at g.window k z (right_edge x (y + 1))) (zero_at g.window k z (down_edge x y))
    (sym (residues_are r g h x y i) ∙ none x y i)
  where
    nothing : (p q b l t : ℤ) → p ≡ pos 0 → q ≡ pos 0 → b ≡ pos 0 → l ≡ pos 0 → t ≡ pos 0 → p +ℤ q -ℤ b -ℤ l ≡ neg_ℤ t
    nothing p q b l t d e f g h = rw (d, e, f, g, h) (omega (arith, ints))

pub zeros_greatest : (k : Corrections) → AreZero k → greatest_of k ≡ 0
zeros_greatest k z =
    let l = greatest_of_least k 0 (λ i. rw (z.rights i) (omega (arith, ints))) (λ i. rw (z.downs i) (omega (arith, ints))) in
    omega (arith, l)

-- and are small over every window of a raster
pub zeros_small : (r : Raster) (g : GradientsView) (k : Corrections) → r.width ≤ max_side → r.height ≤ max_side → AreGradientsOf r g → AreZero k → AreSmall g.window k
zeros_small r g k wide high h z =
    let a = h.inside.across in
    let b = h.inside.along in
    rw (zeros_greatest k z) (omega (arith, a, b, wide, high))

-- the window is the whole raster
pub record IsWhole (r : Raster) (v : Window) : Type 0 where
  pub across : (v.x0 ≡ 0) × (v.x1 + 1 ≡ r.width)
  pub along : (v.y0 ≡ 0) × (v.y1 + 1 ≡ r.height)

pub whole_edge : (r : Raster) (v : Window) → IsWhole r v → (e : Edge) → IsTrue (is_edge r.width r.height e) → IsEdgeOf v e
whole_edge r v h e i =
    let t = ends_in e.x e.y r.width r.height (end_x e) (end_y e) i in
    let a = h.across in
    let b = h.along in
    record {
      start = (omega (arith, a), omega (arith, a, t), omega (arith, b), omega (arith, b, t));
      end = (omega (arith, a), omega (arith, a, t), omega (arith, b), omega (arith, b, t));
    }

-- over the whole raster such a surface has no departure, costs nothing and is the best one
module _ (r : Raster) (v : Window) (k : Corrections) (cycles : Field ℤ) (mask : Field Bool) (whole : IsWhole r v) (zero : AreZero k) (departs : DepartBy r v cycles k) where
  pub has_no_departures : HasNoDepartures r mask (lifted r cycles)
  has_no_departures e i o = departs e (whole_edge r v whole e i) ∙ zero_at v k zero e

  pub tiles_cost_nothing : (t : ℕ) → tile_cost r mask t (lifted r cycles) ≡ pos 0
  tiles_cost_nothing t = tile_cost-flat r mask (lifted r cycles) has_no_departures t

  pub seams_cost_nothing : seam_cost r mask (lifted r cycles) ≡ pos 0
  seams_cost_nothing = seam_cost-flat r mask (lifted r cycles) has_no_departures

  pub flat_is_best : IsBest r mask (lifted r cycles)
  flat_is_best = no_departures_are_best r mask (lifted r cycles) (lifted_is_congruent r mask cycles) has_no_departures
