-- What the network answers is right once its cycles meet the anchor.
use Rattle.std.proofs.Common.{◌≡◌, ◌∙◌, ℕ, ◌+◌, ◌*◌, ◌/◌, ◌%◌, ◌<◌, ◌≤◌, ◌⊎◌, ℤ, List, length, ap, sym, subst, arith, inl, inr, Bool}
use Rattle.std.specs.Prelude.{pos, ◌-ℤ◌, slice_index_or, unsigned_abs}
use Rattle.std.proofs.Math.Nat.{div-lt_iff_lt-mul, mod-lt, mul_comm}
use Rattle.std.proofs.lemmas.Nat.{div-add-mod'}
use Rattle.std.proofs.lemmas.List.{get_or_past}
use Rattle.raster_model.specs.declared.sheet.Sheet.{Sheet}
use Rattle.raster_model.specs.Raster.{lifted}
use Rattle.raster_model.specs.Sheets.{sheet_raster}
use Rattle.raster_model.specs.Sums.{Field}
use Rattle.surface_integration.specs.Cycles.{LieWithin, cycles_at}
use Rattle.raster_model.specs.Whole.{IsCertifiedWhole}
use Rattle.whole_solver.specs.declared.limits.TheConstants.{MAX_UNMOVED_CYCLES}
use Rattle.whole_solver.specs.Cycles.{whole_cycles}
use Rattle.whole_solver.specs.Solved.{AreMoved, listed_surface, raster_window}
use Rattle.whole_solver.proofs.Shifts.{stays_certified}
use Rattle.whole_solver.proofs.WholeLemmas.{place_is}

module _ (s : Sheet) (cycles : List ℤ) where
  -- two ways to say which number of a list is a pixel's
  same_cycles : (x y : ℕ) → cycles_at (raster_window (sheet_raster s)) cycles x y ≡ whole_cycles s.phase.now.width cycles x y
  same_cycles x y = ap (λ (k : ℕ). slice_index_or cycles k (pos 0)) (place_is y s.phase.now.width x s.phase.now.wide.0)

  -- each place of the list is a pixel's
  pub all_within : length cycles ≡ s.phase.now.width * s.phase.now.height → LieWithin (raster_window (sheet_raster s)) (cycles_at (raster_window (sheet_raster s)) cycles) MAX_UNMOVED_CYCLES → (k : ℕ) → unsigned_abs (slice_index_or cycles k (pos 0)) ≤ MAX_UNMOVED_CYCLES
  all_within count within k = elim (under_or_past k (s.phase.now.width * s.phase.now.height)) [
    | inl l ↦ (
        let w = s.phase.now.width in
        let wide = s.phase.now.wide in
        let high = s.phase.now.high in
        let d = parts k w s.phase.now.height wide.0 l in
        let at = within (k % w) (k / w) (omega arith, omega (arith, d.0, wide), omega arith, omega (arith, d.1, high)) in
        subst (λ (z : ℤ). unsigned_abs z ≤ MAX_UNMOVED_CYCLES) (same_cycles (k % w) (k / w) ∙ ap (λ (j : ℕ). slice_index_or cycles j (pos 0)) d.2) at)
    | inr l ↦ rw (get_or_past cycles k (pos 0) (rw count l)) (omega arith)
  ]
    where
      under_or_past : (k n : ℕ) → (k < n) ⊎ (n ≤ k)
      under_or_past k n = grind arith

      parts : (k w h : ℕ) → 1 ≤ w → k < w * h → (k % w < w) × (k / w < h) × (k / w * w + k % w ≡ k)
      parts k w h l m = (mod-lt k (omega (arith, l)), (div-lt_iff_lt-mul {k = w} {x = k} {y = h} (omega (arith, l))).1 (rw (mul_comm h w) m), div-add-mod' k w)

-- moved cycles are certified by the same faces
pub moved_certified : (s : Sheet) (mask : Field Bool) (cycles made faces : List ℤ) (by : ℤ) → AreMoved (sheet_raster s) (whole_cycles s.phase.now.width cycles) (whole_cycles s.phase.now.width made) by → IsCertifiedWhole (sheet_raster s) mask (listed_surface (sheet_raster s) cycles) faces → IsCertifiedWhole (sheet_raster s) mask (lifted (sheet_raster s) (whole_cycles s.phase.now.width made)) faces
moved_certified s mask cycles made faces by moved whole =
    stays_certified (sheet_raster s) mask (cycles_at (raster_window (sheet_raster s)) cycles) (whole_cycles s.phase.now.width made) by
    (λ x y l m. moved x y l m ∙ ap (λ (z : ℤ). z -ℤ by) (sym (same_cycles s cycles x y))) faces whole
