-- Surfaces that a report shows: one with which nothing is wrong is certified, and a certified one is so; what is said under one mask is true under another with the same open pixels.
use Rattle.std.proofs.Common.{◌≡◌, ◌∙◌, ℕ, ◌+◌, ◌*◌, ◌<◌, ◌≤◌, List, refl, sym, ap, subst, arith, Bool, true, false}
use Rattle.std.specs.Prelude.{ℤ, pos, ◌+ℤ◌, ◌*ℤ◌, IsTrue, IsFalse, if◌then◌else◌}
use Rattle.raster_model.specs.declared.scene.Scene.{Scene}
use Rattle.raster_model.specs.Raster.{Raster, seam_cost}
use Rattle.raster_model.specs.Scene.{raster_of}
use Rattle.raster_model.specs.Sums.{Field}
use Rattle.raster_model.proofs.Exact.{lifted_is_congruent}
use Rattle.raster_model.proofs.MaskAgrees.{regions_too}
use Rattle.surface_snapshots.specs.Parts.{tile_costs}
use Rattle.surface_snapshots.proofs.SameLemmas.{anchored_too, same_seam_cost, same_tile_costs, seams_too, tile_too}
use Rattle.grid_writer.specs.Values.{no_data}
use Rattle.report_text.specs.Certified.{IsCertifiedSurface}
use Rattle.std.specs.Int.{int_div_euclid}
use Rattle.certificates.specs.declared.verdicts.SeamVerdict.{SeamVerdict}
use Rattle.certificates.specs.declared.verdicts.SeamVerdict.TheVariants as seam_verdicts
use Rattle.certificates.specs.declared.verdicts.TileVerdict.{TileVerdict}
use Rattle.certificates.specs.declared.verdicts.TileVerdict.TheVariants as tile_verdicts
use Rattle.certificates.specs.SeamVerdicts.{IsSeamVerdict}
use Rattle.certificates.specs.Verdicts.{IsFacesVerdict}
use Rattle.report_text.specs.Reports.{SurfaceOf}
use Rattle.report_text.specs.Same.{IsSameSurface}
use Rattle.report_check.specs.declared.verdict.CheckVerdict.{CheckVerdict}
use Rattle.report_check.specs.declared.verdict.CheckVerdict.TheVariants.{Accepted, Header, History, Value, Tile, Seams, TileCost, SeamCost}
use Rattle.report_check.specs.Shown.{IsGoodSurface}
use Rattle.report_check.specs.Verdicts.{IsSurfaceVerdict, PassesSeams, PassesTiles, TilesAreCertified, surface_shown}
use Rattle.grid_writer.specs.Fits.{AllValuesFit, FitsPhase, HasPhases, IsFirstUnfitValue, ValueFits, cycles_shown}
use Rattle.report_check.proofs.MaskLemmas.{faces_verdict_too, same_region, seam_verdict_too}
use Rattle.grid_writer.proofs.FitSurfaces.{shows_cycles}

module _ (r : Raster) (mask : Field Bool) (k : SurfaceOf) (phases : HasPhases r) where
  shown_where : (x y : ℕ) → ValueFits r mask k.values x y → (b : Bool) → mask x y ≡ b → k.values x y ≡ (if b then surface_shown r k x y else no_data)
  shown_where x y fits true e = (let f = fits.unmasked e in shows_cycles r phases k.values x y f.cycles f.whole)
  shown_where x y fits false e = fits.masked e

  pub good_is_certified : IsGoodSurface r mask k → IsCertifiedSurface r mask k (surface_shown r k)
  good_is_certified good = record {
    shows = record {
      shown = λ x y l h. shown_where x y (good.passes.tiles.values x y l h) (mask x y) refl;
      told = λ x y l h o. ((good.passes.tiles.values x y l h).unmasked o).told;
    };
    congruent = lifted_is_congruent r mask (cycles_shown k.values);
    anchored = good.passes.seams.0;
    tiles = good.passes.tiles.tiles;
    seams = good.passes.seams.1;
    tile_cost = good.tile_cost;
    seam_cost_is = good.seam_cost_is;
  }

  module _ (S : Field ℤ) (is : IsCertifiedSurface r mask k S) where
    shown_open : (x y : ℕ) → x < r.width → y < r.height → IsTrue (mask x y) → k.values x y ≡ S x y
    shown_open x y l h o = subst (λ (b : Bool). k.values x y ≡ (if b then S x y else no_data)) o (is.shows.shown x y l h)

    shown_masked : (x y : ℕ) → x < r.width → y < r.height → IsFalse (mask x y) → k.values x y ≡ no_data
    shown_masked x y l h o = subst (λ (b : Bool). k.values x y ≡ (if b then S x y else no_data)) o (is.shows.shown x y l h)

    agree : (x y : ℕ) → x < r.width → y < r.height → IsTrue (mask x y) → S x y ≡ surface_shown r k x y
    agree x y l h o =
        let c = is.congruent x y l h o in
        let e = shown_open x y l h o in
        sym e ∙ shows_cycles r phases k.values x y c.0 (e ∙ c.1)

    same : (x y : ℕ) → x < r.width → y < r.height → mask x y ≡ mask x y
    same x y l h = refl

    pub certified_is_good : IsGoodSurface r mask k
    certified_is_good = record {
      passes = record {
        tiles = record {
          values = λ x y l h. record {
            masked = λ o. shown_masked x y l h o;
            unmasked = λ o. (
                let c = is.congruent x y l h o in
                record { told = is.shows.told x y l h o; cycles = c.0; whole = shown_open x y l h o ∙ c.1 });
          };
          tiles = λ t l. tile_too r mask mask same S (surface_shown r k) agree t (k.faces t) (is.tiles t l);
        };
        seams = (anchored_too r mask mask same S (surface_shown r k) agree is.anchored, seams_too r mask mask same S (surface_shown r k) agree k.flows is.seams);
      };
      tile_cost = is.tile_cost ∙ same_tile_costs r mask mask same S (surface_shown r k) agree;
      seam_cost_is = is.seam_cost_is ∙ same_seam_cost r mask mask same S (surface_shown r k) agree;
    }

-- ---- under another mask, an equal surface
pub itself_same : (width height tiles : ℕ) (k : SurfaceOf) → IsSameSurface width height tiles k k
itself_same width height tiles k = record { tile_cost = refl; seam_cost = refl; values = λ x y l h. refl; faces = λ t l. refl; flows = refl }

-- a value that fits, under a mask that agrees at the pixel
value_too : (r : Raster) (m n : Field Bool) (values others : Field ℤ) (x y : ℕ) → m x y ≡ n x y → values x y ≡ others x y → ValueFits r m values x y → ValueFits r n others x y
value_too r m n values others x y same e f = record { masked = λ o. sym e ∙ f.masked (same ∙ o); unmasked = λ o. subst (FitsPhase (r.phase x y)) e (f.unmasked (same ∙ o)) }

module _ (r : Raster) (m n : Field Bool) (same : (x y : ℕ) → x < r.width → y < r.height → m x y ≡ n x y) (k l : SurfaceOf) (equal : IsSameSurface r.width r.height r.tile_count k l) where
  same_cycles : (x y : ℕ) → x < r.width → y < r.height → cycles_shown k.values x y ≡ cycles_shown l.values x y
  same_cycles x y a b = ap (λ (z : ℤ). int_div_euclid z (pos 65536)) (equal.values x y a b)

  alike : (x y : ℕ) → x < r.width → y < r.height → IsTrue (m x y) → surface_shown r k x y ≡ surface_shown r l x y
  alike x y a b o = ap (λ (z : ℤ). pos (r.phase x y) +ℤ pos 65536 *ℤ z) (same_cycles x y a b)

  values_too : AllValuesFit r m k.values → AllValuesFit r n l.values
  values_too all x y a b = value_too r m n k.values l.values x y (same x y a b) (equal.values x y a b) (all x y a b)

  faces_too : (t : ℕ) → t < r.tile_count → (v : TileVerdict) → IsFacesVerdict r m t (surface_shown r k) (k.faces t) v → IsFacesVerdict r n t (surface_shown r l) (l.faces t) v
  faces_too t below v h = subst (λ (faces : List ℤ). IsFacesVerdict r n t (surface_shown r l) faces v) (equal.faces t below) (faces_verdict_too r m n same t (surface_shown r k) (surface_shown r l) alike (k.faces t) v h)

  tiles_too : (count : ℕ) → count ≤ r.tile_count → TilesAreCertified r m k count → TilesAreCertified r n l count
  tiles_too count within all t below = faces_too t (omega (arith, within, below)) tile_verdicts.Good (all t below)

  flows_too : (labels : Field ℕ) (count : ℕ) (v : SeamVerdict) → IsSeamVerdict r m labels count (cycles_shown k.values) k.flows v → IsSeamVerdict r n labels count (cycles_shown l.values) l.flows v
  flows_too labels count v h = subst (λ (flows : List ℤ). IsSeamVerdict r n labels count (cycles_shown l.values) flows v) equal.flows (seam_verdict_too r m n same labels labels count count refl (same_region r m n same labels) (cycles_shown k.values) (cycles_shown l.values) same_cycles k.flows v h)

  passes_tiles_too : PassesTiles r m k → PassesTiles r n l
  passes_tiles_too p = record { values = values_too p.values; tiles = tiles_too r.tile_count (omega arith) p.tiles }

  passes_too : PassesSeams r m k → PassesSeams r n l
  passes_too p = record { tiles = passes_tiles_too p.tiles; seams = flows_too (λ x y. 0) 0 seam_verdicts.Good p.seams }

  tile_cost_too : pos k.tile_cost ≡ tile_costs r m (surface_shown r k) → pos l.tile_cost ≡ tile_costs r n (surface_shown r l)
  tile_cost_too e = ap pos (sym equal.tile_cost) ∙ e ∙ same_tile_costs r m n same (surface_shown r k) (surface_shown r l) alike

  seam_cost_too : pos k.seam_cost ≡ seam_cost r m (surface_shown r k) → pos l.seam_cost ≡ seam_cost r n (surface_shown r l)
  seam_cost_too e = ap pos (sym equal.seam_cost) ∙ e ∙ same_seam_cost r m n same (surface_shown r k) (surface_shown r l) alike

  pub good_too : IsGoodSurface r m k → IsGoodSurface r n l
  good_too g = record { passes = passes_too g.passes; tile_cost = tile_cost_too g.tile_cost; seam_cost_is = seam_cost_too g.seam_cost_is }

  unfit_value_too : (x y : ℕ) → IsFirstUnfitValue r m k.values x y → IsFirstUnfitValue r n l.values x y
  unfit_value_too x y u = record {
    across = u.across;
    along = u.along;
    unfit = λ f. u.unfit (value_too r n m l.values k.values x y (sym (same x y u.across u.along)) (sym (equal.values x y u.across u.along)) f);
    first = λ a b c d e. value_too r m n k.values l.values a b (same a b c d) (equal.values a b c d) (u.first a b c d e);
  }

  pub surface_verdict_too : (revision : ℕ) (v : CheckVerdict) → IsSurfaceVerdict r m revision k v → IsSurfaceVerdict r n revision l v
  surface_verdict_too revision Accepted h = h
  surface_verdict_too revision (Header x) h = h
  surface_verdict_too revision (History x) h = h
  surface_verdict_too revision (Value told x y) h = (h.0, unfit_value_too x y h.1)
  surface_verdict_too revision (Tile told t verdict) h =
      let u = h.1.1 in
      (h.0, (values_too h.1.0, record { exists = u.exists; before = tiles_too t (omega (arith, u.exists)) u.before; verdict_is = faces_too t u.exists verdict u.verdict_is; not_good = u.not_good }))
  surface_verdict_too revision (Seams told verdict) h =
      let u = h.1.1 in
      (h.0, (passes_tiles_too h.1.0, record { labels = u.labels; count = u.count; regions = regions_too r m n same u.labels u.count u.regions; verdict_is = flows_too u.labels u.count verdict u.verdict_is; not_good = u.not_good }))
  surface_verdict_too revision (TileCost told written counted) h = (h.0, (passes_too h.1.0, (h.1.1.0 ∙ equal.tile_cost, (h.1.1.1.0 ∙ same_tile_costs r m n same (surface_shown r k) (surface_shown r l) alike, h.1.1.1.1))))
  surface_verdict_too revision (SeamCost told written counted) h = (h.0, (passes_too h.1.0, (tile_cost_too h.1.1.0, (h.1.1.1.0 ∙ equal.seam_cost, (h.1.1.1.1.0 ∙ same_seam_cost r m n same (surface_shown r k) (surface_shown r l) alike, h.1.1.1.1.1)))))
