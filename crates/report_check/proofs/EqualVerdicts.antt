-- Sessions and reports that tell the same have the same verdicts: whatever is wrong with one is wrong with the other, at the same place.
use Rattle.std.proofs.Common.{◌≡◌, ◌∙◌, ℕ, refl, sym, subst, arith, List, take}
use Rattle.std.specs.Prelude.{Option, Some, None, slice_get}
use Rattle.raster_model.specs.declared.session.Session.{Session}
use Rattle.raster_model.specs.Raster.{Raster}
use Rattle.raster_model.specs.Scene.{raster_of}
use Rattle.tile_board.specs.declared.entry.Entry.{Entry}
use Rattle.tile_board.specs.Histories.{IsComplete, IsLegal, mask_in}
use Rattle.tile_board.proofs.ListLemmas.{get_below}
use Rattle.report_text.specs.Certified.{history_of}
use Rattle.report_text.specs.Reports.{ReportOf, SurfaceOf}
use Rattle.report_text.specs.Same.{IsSameReport, IsSameSurface}
use Rattle.report_check.specs.declared.verdict.CheckVerdict.{CheckVerdict}
use Rattle.report_check.specs.declared.verdict.CheckVerdict.TheVariants.{Accepted, Header, History}
use Rattle.report_check.specs.Same.{IsSameInput, VerdictIsOfTexts}
use Rattle.report_check.specs.Verdicts.{BreaksHistoryAt, BreaksInSurfaces, DiffersAt, HasHeadOf, IsFirstUnfitSurface, IsSurfaceVerdict, MayNotCome}
use Rattle.report_check.proofs.EqualReports.{MayBeSameOn, item_too, same_history, same_item, same_there}
use Rattle.report_check.proofs.EqualSessions.{acceptance_is_of_texts, are_alike, legal_too, same_complete, same_step}
use Rattle.report_check.proofs.HeadLemmas.{numbers_alike}
use Rattle.report_check.proofs.SurfaceLemmas.{surface_verdict_too}
use Rattle.sums_and_lists.proofs.Lists.{some_at}

-- ---- the head
module _ (s t : Session) (v w : ReportOf) (same : IsSameInput s t) (equal : IsSameReport v w) where
  head_too : HasHeadOf s v → HasHeadOf t w
  head_too h =
      let one = numbers_alike equal.terms in
      let other = numbers_alike same.terms in
      record {
        size = (sym equal.width ∙ h.size.0 ∙ same.phase.width, sym equal.height ∙ h.size.1 ∙ same.phase.height);
        side = sym equal.side ∙ h.side ∙ same.side;
        rule = sym equal.rule ∙ h.rule ∙ same.rule;
        ramp = (sym one.0 ∙ h.ramp.0 ∙ other.0, sym one.1 ∙ h.ramp.1 ∙ other.1);
        steepness = sym one.2 ∙ h.steepness ∙ other.2;
      }

  differs_too : (n : ℕ) → DiffersAt s v n → DiffersAt t w n
  differs_too n d = (let terms = numbers_alike same.terms in rw (equal.width, equal.height, equal.side, equal.rule, equal.terms, same.phase.width, same.phase.height, same.side, same.rule, terms.0, terms.1, terms.2) at d)

-- ---- the history
module _ (s t : Session) (same : IsSameInput s t) where
  not_come_too : (H : List Entry) (o : Option Entry) → MayNotCome s H o → MayNotCome t H o
  not_come_too H (Some e) not = λ step. not ((same_step s t same H e).1 step)
  not_come_too H None not = λ complete. not ((same_complete s t same H).1 complete)

  breaks_too : (H : List Entry) (n : ℕ) → BreaksHistoryAt s H n → BreaksHistoryAt t H n
  breaks_too H n h = record {
    before = h.before;
    number = h.number;
    some = h.some;
    legal = legal_too s t same (take h.before H) h.legal;
    broken = not_come_too (take h.before H) (slice_get H h.before) h.broken;
  }

-- ---- the first surface that is not in order
surface_after : (r : Raster) (k : SurfaceOf) (b : Option SurfaceOf) → MayBeSameOn r (Some k) b → (l : SurfaceOf) × (b ≡ Some l) × IsSameSurface r.width r.height r.tile_count k l
surface_after r k None same = absurd same
surface_after r k (Some l) same = (l, refl, same)

module _ (s t : Session) (v w : ReportOf) (same : IsSameInput s t) (equal : IsSameReport v w) where
  abbrev H : List Entry
  H = history_of v

  verdict_there : (revision : ℕ) (k l : SurfaceOf) → IsSameSurface s.scene.phase.width s.scene.phase.height (raster_of s.scene).tile_count k l → (verdict : CheckVerdict) → IsSurfaceVerdict (raster_of s.scene) (mask_in s H revision) revision k verdict → IsSurfaceVerdict (raster_of t.scene) (mask_in t (history_of w) revision) revision l verdict
  verdict_there revision k l alike verdict h =
      let told = are_alike s t same H in
      let shown = surface_verdict_too (raster_of s.scene) (mask_in s H revision) (mask_in t H revision) (told.masks revision) k l alike revision verdict h in
      let moved = subst (λ (r : Raster). IsSurfaceVerdict r (mask_in t H revision) revision l verdict) told.raster shown in
      subst (λ (E : List Entry). IsSurfaceVerdict (raster_of t.scene) (mask_in t E revision) revision l verdict) (same_history v w equal) moved

  unfit_too : (verdict : CheckVerdict) → HasHeadOf s v → IsFirstUnfitSurface s v verdict → IsFirstUnfitSurface t w verdict
  unfit_too verdict head u =
      let there = some_at w.items u.at (omega (arith, get_below v.items u.at u.item u.item_is, equal.items.0)) in
      let item = equal.items.1 u.at u.item there.0 u.item_is there.1 in
      let behind = subst (λ (a : Option SurfaceOf). MayBeSameOn (raster_of s.scene) a there.0.surface) u.surface_is (same_there s t v w equal head u.item.surface there.0.surface item.surface) in
      let found = surface_after (raster_of s.scene) u.surface there.0.surface behind in
      record {
        at = u.at;
        item = there.0;
        analyst = u.analyst;
        revision = u.revision;
        surface = found.0;
        item_is = there.1;
        entry_is = sym item.entry ∙ u.entry_is;
        surface_is = found.1;
        before = λ k j below at. (let i = same_item v w equal k j at in item_too s t v w equal head (are_alike s t same H) i.0 j i.2 (u.before k i.0 below i.1));
        unfit = verdict_there u.revision u.surface found.0 found.2 verdict u.unfit;
      }

  surfaces_too : (verdict : CheckVerdict) → BreaksInSurfaces s v verdict → BreaksInSurfaces t w verdict
  surfaces_too verdict h =
      let legal = subst (λ (E : List Entry). IsLegal t E) (same_history v w equal) (legal_too s t same H h.1.0) in
      let complete = subst (λ (E : List Entry). IsComplete t E) (same_history v w equal) ((same_complete s t same H).0 h.1.1.0) in
      (head_too s t v w same equal h.0, (legal, (complete, unfit_too verdict h.0 h.1.1.1)))

pub verdict_is_of_texts : VerdictIsOfTexts
verdict_is_of_texts s t v w Accepted same equal h = acceptance_is_of_texts s t v w same equal h
verdict_is_of_texts s t v w (Header n) same equal h = differs_too s t v w same equal n h
verdict_is_of_texts s t v w (History n) same equal h = (
  head_too s t v w same equal h.0,
  subst (λ (H : List Entry). BreaksHistoryAt t H n) (same_history v w equal) (breaks_too s t same (history_of v) n h.1),
)
verdict_is_of_texts s t v w verdict same equal h = surfaces_too s t v w same equal verdict h
