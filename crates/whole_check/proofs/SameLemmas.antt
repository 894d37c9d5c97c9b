-- What is certified of one surface is so of another with the same values at open pixels.
use Rattle.std.proofs.Common.{◌≡◌, ◌∙◌, ℕ, ◌<◌, ℤ, List, Bool, IsTrue, refl, sym, ap, subst, arith}
use Rattle.std.specs.Prelude.{◌≢◌, ◌^◌, pos, ◌+ℤ◌, ◌*ℤ◌, IsFalse, unsigned_abs}
use Rattle.std.specs.Int.{int_div_euclid}
use Rattle.std.proofs.lemmas.Int.{ints}
use Rattle.raster_model.specs.Raster.{Raster, lifted}
use Rattle.raster_model.specs.Seams.{IsAnchored}
use Rattle.raster_model.specs.Sums.{Field}
use Rattle.raster_model.proofs.Exact.{lifted_is_congruent}
use Rattle.grid_writer.specs.Values.{no_data}
use Rattle.surface_snapshots.proofs.SameLemmas.{anchored_too, same_tile_cost, tile_too}
use Rattle.text_parts.specs.Terms.{TermsOf}
use Rattle.grid_writer.specs.Fits.{AllValuesFit, FitsPhase, HasPhases, ValueFits, cycles_shown}
use Rattle.raster_model.specs.Whole.{IsCertifiedWhole, whole_cost, whole_of}
use Rattle.raster_model.proofs.Whole.{whole_tile_cost}
use Rattle.whole_text.specs.Reading.{IsSameWhole}
use Rattle.whole_text.specs.Text.{WholeOf}
use Rattle.whole_text.specs.Told.{AreFewCycles, WholeTask, value_above}
use Rattle.whole_check.specs.Same.{AcceptanceIsOfWholes, CertifiedWholesAreAccepted}
use Rattle.whole_check.specs.Verdicts.{HasWholeHead, surface_told}
use Rattle.whole_check.proofs.StandLemmas.{shown_there}

module _ (r : Raster) (mask : Field Bool) (cycles others : Field ℤ) (agree : (x y : ℕ) → x < r.width → y < r.height → IsTrue (mask x y) → lifted r cycles x y ≡ lifted r others x y) where
  anchored_also : IsAnchored r mask (lifted r cycles) → IsAnchored r mask (lifted r others)
  anchored_also a = anchored_too r mask mask (λ x y l h. refl) (lifted r cycles) (lifted r others) agree a

  certified_also : (faces : List ℤ) → IsCertifiedWhole r mask (lifted r cycles) faces → IsCertifiedWhole r mask (lifted r others) faces
  certified_also faces c = record {
    congruent = lifted_is_congruent r mask others;
    certified = tile_too (whole_of r) mask mask (λ x y l h. refl) (lifted r cycles) (lifted r others) agree 0 faces c.certified;
  }

  costs_also : whole_cost r mask (lifted r cycles) ≡ whole_cost r mask (lifted r others)
  costs_also = sym (whole_tile_cost r mask (lifted r cycles)) ∙ same_tile_cost (whole_of r) mask mask (λ x y l h. refl) (lifted r cycles) (lifted r others) agree 0 ∙ whole_tile_cost r mask (lifted r others)

-- ---- texts that tell the same

same_head : (s : WholeTask) (v w : WholeOf) → IsSameWhole v w → HasWholeHead s v → HasWholeHead s w
same_head s v w same h = record {
  size = (sym same.width ∙ h.size.0, sym same.height ∙ h.size.1);
  rule = sym same.rule ∙ h.rule;
  ramp = (ap (λ (t : TermsOf). t.ramp_x) (sym same.terms) ∙ h.ramp.0, ap (λ (t : TermsOf). t.ramp_y) (sym same.terms) ∙ h.ramp.1);
  steepness = ap (λ (t : TermsOf). t.steep) (sym same.terms) ∙ h.steepness;
}

same_fit : (r : Raster) (mask : Field Bool) (values others : Field ℤ) (x y : ℕ) → values x y ≡ others x y → ValueFits r mask values x y → ValueFits r mask others x y
same_fit r mask values others x y e f = record { masked = λ m. sym e ∙ f.masked m; unmasked = λ o. subst (FitsPhase (r.phase x y)) e (f.unmasked o) }

pub acceptance_is_of_texts : AcceptanceIsOfWholes
acceptance_is_of_texts s v w same c =
    let r = s.raster in
    let mask = s.mask in
    let size = c.head in
    let values : (x y : ℕ) → x < r.width → y < r.height → v.values x y ≡ w.values x y = λ x y l h. same.values x y (omega (arith, l, size.size.0)) (omega (arith, h, size.size.1)) in
    let agree : (x y : ℕ) → x < r.width → y < r.height → IsTrue (mask x y) → surface_told s v x y ≡ surface_told s w x y = λ x y l h o. ap (λ (z : ℤ). pos (r.phase x y) +ℤ pos 65536 *ℤ int_div_euclid z (pos 65536)) (values x y l h) in
    record {
      head = same_head s v w same c.head;
      values = λ x y l h. same_fit r mask v.values w.values x y (values x y l h) (c.values x y l h);
      anchored = anchored_also r mask (cycles_shown v.values) (cycles_shown w.values) agree c.anchored;
      certified = subst (λ (faces : List ℤ). IsCertifiedWhole r mask (surface_told s w) faces) same.faces (certified_also r mask (cycles_shown v.values) (cycles_shown w.values) agree v.faces c.certified);
      cost = ap pos (sym same.cost) ∙ c.cost ∙ costs_also r mask (cycles_shown v.values) (cycles_shown w.values) agree;
    }

-- ---- what is told of a surface

not_no_data : (p : ℕ) (c : ℤ) → unsigned_abs c < 2 ^ 47 → pos p +ℤ pos 65536 *ℤ c ≢ no_data
not_no_data p c few e = omega (arith, ints, few, e)

module _ (r : Raster) (mask : Field Bool) (cycles : Field ℤ) where
  above_open : (x y : ℕ) → IsTrue (mask x y) → value_above r mask cycles x y ≡ lifted r cycles x y
  above_open x y o = rw o refl

  above_masked : (x y : ℕ) → IsFalse (mask x y) → value_above r mask cycles x y ≡ no_data
  above_masked x y m = rw m refl

  pub above_fit : AreFewCycles r mask cycles → AllValuesFit r mask (value_above r mask cycles)
  above_fit few x y l h = record {
    masked = above_masked x y;
    unmasked = λ o. record { told = λ e. not_no_data (r.phase x y) (cycles x y) (few x y l h o) (sym (above_open x y o) ∙ e); cycles = cycles x y; whole = above_open x y o };
  }

  pub above_agrees : HasPhases r → AreFewCycles r mask cycles → (x y : ℕ) → x < r.width → y < r.height → IsTrue (mask x y) → lifted r cycles x y ≡ lifted r (cycles_shown (value_above r mask cycles)) x y
  above_agrees phases few x y l h o = sym (above_open x y o) ∙ shown_there r mask (value_above r mask cycles) phases x y (above_fit few x y l h) o

pub certified_wholes_are_accepted : CertifiedWholesAreAccepted
certified_wholes_are_accepted s is cycles faces cost solved =
    let r = s.raster in
    let mask = s.mask in
    let shown = cycles_shown (value_above r mask cycles) in
    let agree = above_agrees r mask cycles is.phases solved.few in
    record {
      head = record { size = (refl, refl); rule = refl; ramp = (refl, refl); steepness = refl };
      values = above_fit r mask cycles solved.few;
      anchored = anchored_also r mask cycles shown agree solved.anchored;
      certified = certified_also r mask cycles shown agree faces solved.certified;
      cost = solved.cost_is ∙ costs_also r mask cycles shown agree;
    }
