-- Values that fit, and the value at the first open pixel.
use Rattle.std.proofs.Common.{◌≡◌, ◌∙◌, ℕ, ◌<◌, Bool, IsTrue, sym, arith}
use Rattle.std.specs.Prelude.{◌≢◌, ℤ, pos}
use Rattle.raster_model.specs.Raster.{Raster, lifted}
use Rattle.raster_model.specs.Seams.{IsAnchored, IsEarlier, IsFirstOpen}
use Rattle.raster_model.specs.Sums.{Field}
use Rattle.certificates.proofs.Unique.{same_pixel}
use Rattle.grid_writer.specs.Fits.{AllValuesFit, HasPhases, IsFirstUnfitValue, ValueFits, cycles_shown}
use Rattle.grid_writer.proofs.FitSurfaces.{shows_cycles}
use Rattle.whole_check.specs.Verdicts.{AllValuesStand, IsFirstFalseValue}

earlier_then : (a b x y p q : ℕ) → IsEarlier a b x y → IsEarlier x y p q → IsEarlier a b p q
earlier_then a b x y p q e f = grind arith

earlier_still : (a b x y p q : ℕ) → IsEarlier a b p q → (IsEarlier x y p q → ⊥) → IsEarlier a b x y
earlier_still a b x y p q e f = grind arith

module _ (r : Raster) (mask : Field Bool) (values : Field ℤ) where
  -- the value at the first open pixel is the phase
  abbrev pub HasAnchor : Type 0
  HasAnchor = (x y : ℕ) → IsFirstOpen r mask x y → values x y ≡ pos (r.phase x y)

  pub all_stand : AllValuesFit r mask values → HasAnchor → AllValuesStand r mask values
  all_stand f a x y l h = record { fits = f x y l h; anchored = a x y }

  pub unfit_false : (x y : ℕ) → IsFirstUnfitValue r mask values x y → HasAnchor → IsFirstFalseValue r mask values x y
  unfit_false x y u anchor = record {
    across = u.across;
    along = u.along;
    wrong = λ s. u.unfit s.fits;
    first = λ a b l h e. record { fits = u.first a b l h e; anchored = anchor a b };
  }

  -- before the first open pixel none is anchored
  pub before_anchor : (x y p q : ℕ) → IsFirstUnfitValue r mask values x y → IsFirstOpen r mask p q → IsEarlier x y p q → IsFirstFalseValue r mask values x y
  before_anchor x y p q u o e = record {
    across = u.across;
    along = u.along;
    wrong = λ s. u.unfit s.fits;
    first = λ a b l h f. record { fits = u.first a b l h f; anchored = λ i. absurd (o.1 a b i.0 (earlier_then a b x y p q f e)) };
  }

  pub anchor_false : (p q : ℕ) → IsFirstOpen r mask p q → values p q ≢ pos (r.phase p q) → ((a b : ℕ) → a < r.width → b < r.height → IsEarlier a b p q → ValueFits r mask values a b) → IsFirstFalseValue r mask values p q
  anchor_false p q o off fits = record {
    across = o.0.0;
    along = o.0.1;
    wrong = λ s. off (s.anchored o);
    first = λ a b l h e. record { fits = fits a b l h e; anchored = λ i. absurd (o.1 a b i.0 e) };
  }

  pub at_anchor : (x y p q : ℕ) → IsFirstUnfitValue r mask values x y → IsFirstOpen r mask p q → (IsEarlier x y p q → ⊥) → values p q ≢ pos (r.phase p q) → IsFirstFalseValue r mask values p q
  at_anchor x y p q u o later off = anchor_false p q o off (λ a b l h e. u.first a b l h (earlier_still a b x y p q e later))

  pub off_anchor_fit : (p q : ℕ) → AllValuesFit r mask values → IsFirstOpen r mask p q → values p q ≢ pos (r.phase p q) → IsFirstFalseValue r mask values p q
  off_anchor_fit p q f o off = anchor_false p q o off (λ a b l h e. f a b l h)

  -- the first open pixel is one
  pub one_anchor : (p q : ℕ) → IsFirstOpen r mask p q → values p q ≡ pos (r.phase p q) → HasAnchor
  one_anchor p q o e x y i = let same = same_pixel x y p q (λ f. o.1 x y i.0 f) (λ f. i.1 p q o.0 f) in rw (same.0, same.1) e

  -- ---- the surface that the values show

  module _ (phases : HasPhases r) where
    pub shown_there : (x y : ℕ) → ValueFits r mask values x y → IsTrue (mask x y) → values x y ≡ lifted r (cycles_shown values) x y
    shown_there x y fits o = let f = fits.unmasked o in shows_cycles r phases values x y f.cycles f.whole

    pub stand_anchored : AllValuesStand r mask values → IsAnchored r mask (lifted r (cycles_shown values))
    stand_anchored s x y o first = let v = s x y o.0 o.1 in sym (shown_there x y v.fits o.2) ∙ v.anchored (o, first)

    pub anchored_stand : AllValuesFit r mask values → IsAnchored r mask (lifted r (cycles_shown values)) → AllValuesStand r mask values
    anchored_stand f a x y l h = record { fits = f x y l h; anchored = λ i. shown_there x y (f x y l h) i.0.2 ∙ a x y i.0 i.1 }
