-- The surfaces of a report, each at the mask of its revision; and what the parts of a check say of the report.
use Rattle.std.proofs.Common.{◌≡◌, ◌∙◌, ℕ, ◌+◌, ◌-◌, ◌*◌, ◌/◌, ◌<◌, ◌≤◌, inl, inr, refl, sym, ap, subst, arith, Bool, List, ◌++◌, drop, take}
use Rattle.std.specs.Global.{Box}
use Rattle.std.specs.Prelude.{Option, Some, ◌↔◌, slice_get}
use Rattle.std.proofs.lemmas.List.{take-append-drop, take-append-le}
use Rattle.std.proofs.lemmas.List.Elements.{filter_map-append}
use Rattle.raster_model.specs.declared.session.Session.{Session}
use Rattle.raster_model.specs.Masks.{open_at}
use Rattle.raster_model.specs.Scene.{raster_of}
use Rattle.raster_model.specs.Sums.{Field}
use Rattle.raster_model.specs.Tiles.{tiles_of}
use Rattle.mask_revisions.specs.Edits.{mask_after}
use Rattle.mask_revisions.specs.RevisionsView.{RevisionsView}
use Rattle.tile_board.specs.declared.entry.Entry.{Entry}
use Rattle.tile_board.specs.declared.entry.Entry.TheVariants.{Published}
use Rattle.tile_board.specs.Histories.{IsComplete, IsLegal, IsStep, edit_of, edits_of, mask_in, now_of, present_mask}
use Rattle.tile_board.proofs.ListLemmas.{get_map}
use Rattle.report_text.specs.declared.contents.Report.{Report}
use Rattle.report_text.specs.declared.items.Item.{Item}
use Rattle.report_text.specs.declared.items.ReportSurface.{ReportSurface}
use Rattle.report_text.specs.Certified.{IsCertifiedAfter, IsCertifiedReport, history_of}
use Rattle.report_text.specs.Contents.{report_told, told_after, told_item}
use Rattle.report_text.specs.Fitting.{SurfaceFits}
use Rattle.report_text.specs.Reports.{ItemOf, ReportOf, SurfaceOf}
use Rattle.report_text.specs.Text.{tiles_by}
use Rattle.report_check.specs.declared.verdict.CheckVerdict.{CheckVerdict}
use Rattle.report_check.specs.declared.verdict.CheckVerdict.TheVariants.{Accepted, Header, History}
use Rattle.report_check.specs.Replays.{IsReplay}
use Rattle.report_check.specs.Shown.{AreCertifiedAfter, IsGoodAfter, IsUnfitAfter}
use Rattle.report_check.specs.Verdicts.{HasHeadOf, IsFirstUnfitSurface, IsCheckVerdict, surface_shown}
use Rattle.tile_board.proofs.HeldLemmas.{mask_told}
use Rattle.report_check.proofs.HeadLemmas.{terms_of_head}
use Rattle.grid_writer.proofs.FitSurfaces.{has_phases}
use Rattle.report_check.proofs.SurfaceLemmas.{good_is_certified, good_too, itself_same, surface_verdict_too}
use Rattle.report_check.proofs.UniqueLemmas.{certified_not_unfit}
use Rattle.sums_and_lists.proofs.Orders.{below_or_last}

-- a revision that was there has the same mask later
mask_later : (s : Session) (E : List Entry) (n r : ℕ) → r ≤ now_of (take n E) → mask_in s E r ≡ mask_in s (take n E) r
mask_later s E n r l =
    let split : edits_of E ≡ edits_of (take n E) ++ edits_of (drop n E) = ap edits_of (sym (take-append-drop n E)) ∙ filter_map-append edit_of (take n E) (drop n E) in
    ap (mask_after (open_at s.first_mask)) (ap (take r) split ∙ take-append-le r (edits_of (take n E)) (edits_of (drop n E)) l)

-- ---- an item of a report, after a replay of those before it
module _ (v : Report) where
  abbrev told : ReportOf
  told = report_told v

  abbrev E : List Entry
  E = history_of told

module _ {s : Session} (v : Report) (n : ℕ) {held : RevisionsView} {kept : List Bool} {marks : List ℕ} {last : Option ℕ} (is : IsReplay s (take n (E v)) held kept marks last) where
  same : (r : ℕ) → r ≡ now_of (take n (E v)) → (x y : ℕ) → x < s.scene.phase.width → y < s.scene.phase.height → open_at held.mask x y ≡ mask_in s (E v) r x y
  same r e x y l h =
      let later = mask_later s (E v) n r (omega (arith, e)) in
      let present : mask_in s (take n (E v)) r ≡ present_mask s (take n (E v)) = ap (mask_in s (take n (E v))) e in
      (mask_told is.past).clear_at x y l h ∙ sym (ap (λ (f : Field Bool). f x y) (later ∙ present))

  certified_there : (e : Entry) (behind : Option SurfaceOf) → IsStep s (take n (E v)) e → IsGoodAfter (raster_of s.scene) (open_at held.mask) e behind → IsCertifiedAfter s (E v) e behind
  certified_there (Published a r) (Some k) step good =
      let there = good_too (raster_of s.scene) (open_at held.mask) (mask_in s (E v) r) (same r step.1) k k (itself_same _ _ _ k) good in
      (surface_shown (raster_of s.scene) k, good_is_certified (raster_of s.scene) (mask_in s (E v) r) k (has_phases s.scene) there)
  certified_there e behind step good = good

  module _ {item : Item} (there : slice_get v.items.items n ≡ Some item) (step : IsStep s (take n (E v)) item.entry) (before : (k : ℕ) (i : ItemOf) → k < n → slice_get (told v).items k ≡ Some i → IsCertifiedAfter s (E v) i.entry i.surface) where
    item_told : slice_get (told v).items n ≡ Some (told_item item)
    item_told = get_map told_item v.items.items n item there

    pub more_certified : IsGoodAfter (raster_of s.scene) (open_at held.mask) item.entry (told_after item.surface) → (k : ℕ) (i : ItemOf) → k < n + 1 → slice_get (told v).items k ≡ Some i → IsCertifiedAfter s (E v) i.entry i.surface
    more_certified good k i l g = elim (below_or_last k n l) [
      | inl m ↦ before k i m g
      | inr e ↦ (
          let here : told_item item ≡ i = cc (item_told, g, e) in
          subst (λ (j : ItemOf). IsCertifiedAfter s (E v) j.entry j.surface) here (certified_there item.entry (told_after item.surface) step good))
    ]

    unfit_there : (verdict : CheckVerdict) (e : Entry) (behind : Option SurfaceOf) → item.entry ≡ e → told_after item.surface ≡ behind → IsStep s (take n (E v)) e → IsUnfitAfter (raster_of s.scene) (open_at held.mask) e behind verdict → IsFirstUnfitSurface s (told v) verdict
    unfit_there verdict (Published a r) (Some k) p q here unfit = record {
      at = n;
      item = told_item item;
      analyst = a;
      revision = r;
      surface = k;
      item_is = item_told;
      entry_is = p;
      surface_is = q;
      before = before;
      unfit = surface_verdict_too (raster_of s.scene) (open_at held.mask) (mask_in s (E v) r) (same r here.1) k k (itself_same _ _ _ k) r verdict unfit;
    }
    unfit_there verdict e behind p q here unfit = absurd unfit

    pub first_unfit : (verdict : CheckVerdict) → IsUnfitAfter (raster_of s.scene) (open_at held.mask) item.entry (told_after item.surface) verdict → IsFirstUnfitSurface s (told v) verdict
    first_unfit verdict unfit = unfit_there verdict item.entry (told_after item.surface) refl refl step unfit

tiles_same : (a b c w h g : ℕ) → a ≡ w → b ≡ h → c ≡ g → tiles_by a b c ≡ ((h + g - 1) / g) * ((w + g - 1) / g)
tiles_same a b c w h g e f d = rw (e, f, d) refl

module _ {s : Session} (v : Report) (head : HasHeadOf s (report_told v)) where
  pub fits_there : (n : ℕ) {item : Item} → slice_get v.items.items n ≡ Some item → (k : Box ReportSurface) → item.surface ≡ Some k → SurfaceFits s.scene.phase.width s.scene.phase.height (tiles_of s.scene.tiling) k.value
  fits_there n {item} there k e =
      let f = v.fitting n item there k e in
      record {
        wide = f.wide ∙ head.size.0;
        high = f.high ∙ head.size.1;
        faces = f.faces ∙ tiles_same v.width v.height v.side s.scene.tiling.width s.scene.tiling.height s.scene.tiling.side (head.size.0 ∙ sym s.scene.same_width.1) (head.size.1 ∙ sym s.scene.same_height.1) head.side;
      }

  -- ---- the verdict
  module _ (order : IsLegal s (history_of (report_told v)) × IsComplete s (history_of (report_told v))) where
    pub breaks_in_surfaces : (a : CheckVerdict) → IsFirstUnfitSurface s (report_told v) a → IsCheckVerdict s (report_told v) a
    breaks_in_surfaces Accepted u = absurd u.unfit
    breaks_in_surfaces (Header n) u = absurd u.unfit
    breaks_in_surfaces (History n) u = absurd u.unfit
    breaks_in_surfaces a u = (head, (order.0, (order.1, u)))

    pub is_certified : AreCertifiedAfter s (report_told v) → IsCertifiedReport s (report_told v)
    is_certified all = record {
      width = head.size.0;
      height = head.size.1;
      side = head.side;
      rule = head.rule;
      terms = terms_of_head s (report_told v) head;
      legal = order.0;
      complete = order.1;
      surfaces = all;
    }

-- what a verdict says of acceptance
pub accepted_tells : (s : Session) (v : ReportOf) (a : CheckVerdict) → IsCheckVerdict s v a → (a ≡ Accepted) ↔ IsCertifiedReport s v
accepted_tells s v a h = (λ e. subst (λ (b : CheckVerdict). IsCheckVerdict s v b) e h, λ c. certified_not_unfit s v a h c)
