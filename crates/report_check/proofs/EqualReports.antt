-- Reports that are equal: they have one history, and what stands after its entries is certified alike, also for another session with the same raster and the same masks on it.
use Rattle.std.proofs.Common.{◌≡◌, ◌∙◌, ℕ, zero, suc, ◌<◌, refl, sym, ap₂, subst, arith, List, [], ◌∷◌, map}
use Rattle.std.specs.Prelude.{Option, Some, None, slice_get}
use Rattle.raster_model.specs.declared.session.Session.{Session}
use Rattle.raster_model.specs.Raster.{Raster}
use Rattle.raster_model.specs.Scene.{raster_of}
use Rattle.raster_model.specs.Tiles.{tiles_of}
use Rattle.tile_board.specs.declared.entry.Entry.{Entry}
use Rattle.tile_board.specs.declared.entry.Entry.TheVariants.{Published}
use Rattle.tile_board.specs.Histories.{IsComplete, IsLegal, mask_in}
use Rattle.tile_board.proofs.ListLemmas.{get_below}
use Rattle.report_text.specs.Certified.{IsCertifiedAt, IsCertifiedAfter, IsCertifiedReport, IsCertifiedSurface, history_of}
use Rattle.report_text.specs.Reports.{ItemOf, ReportOf, SurfaceOf}
use Rattle.report_text.specs.Same.{AreSameItems, IsSameItem, IsSameReport, MayBeSame}
use Rattle.report_text.specs.Text.{tiles_in}
use Rattle.report_check.specs.Same.{EqualReportsAreCertifiedAlike}
use Rattle.report_check.specs.Verdicts.{HasHeadOf, surface_shown}
use Rattle.report_check.proofs.HeadLemmas.{head_of}
use Rattle.grid_writer.proofs.FitSurfaces.{has_phases}
use Rattle.report_check.proofs.SurfaceLemmas.{certified_is_good, good_is_certified, good_too}
use Rattle.sums_and_lists.proofs.Lists.{some_at}

-- ---- one history
same_entries : (width height tiles : ℕ) (items others : List ItemOf) → AreSameItems width height tiles items others → map (λ (i : ItemOf). i.entry) items ≡ map (λ (i : ItemOf). i.entry) others
same_entries width height tiles [] [] same = refl
same_entries width height tiles [] (j ∷ others) same = absurd (omega (arith, same.0))
same_entries width height tiles (i ∷ items) [] same = absurd (omega (arith, same.0))
same_entries width height tiles (i ∷ items) (j ∷ others) same = ap₂ (λ (e : Entry) (es : List Entry). e ∷ es) (same.1 zero i j refl refl).entry (same_entries width height tiles items others (omega (arith, same.0), λ k. same.1 (suc k)))

pub same_history : (v w : ReportOf) → IsSameReport v w → history_of v ≡ history_of w
same_history v w equal = same_entries v.width v.height (tiles_in v) v.items w.items equal.items

-- ---- the item that stands at the same place

pub same_item : (v w : ReportOf) → IsSameReport v w → (k : ℕ) (j : ItemOf) → slice_get w.items k ≡ Some j → (i : ItemOf) × (slice_get v.items k ≡ Some i) × IsSameItem v.width v.height (tiles_in v) i j
same_item v w equal k j at =
    let there = some_at v.items k (omega (arith, get_below w.items k j at, equal.items.0)) in
    (there.0, there.1, equal.items.1 k there.0 j there.1 at)

-- ---- what stands after an entry, by a name of its raster
abbrev pub MayBeSameOn : Raster → Option SurfaceOf → Option SurfaceOf → Type 0
MayBeSameOn r a b = MayBeSame r.width r.height r.tile_count a b

none_too : (r : Raster) (a b : Option SurfaceOf) → MayBeSameOn r a b → a ≡ None → b ≡ None
none_too r None None same e = refl
none_too r None (Some l) same e = absurd same
none_too r (Some k) b same e = cc

-- two sessions with one raster, and with the same mask on it at each revision of a history
pub record AreAlike (s t : Session) (H : List Entry) : Type 0 where
  pub raster : raster_of s.scene ≡ raster_of t.scene
  pub masks : (revision x y : ℕ) → x < s.scene.phase.width → y < s.scene.phase.height → mask_in s H revision x y ≡ mask_in t H revision x y

module _ (s t : Session) (H : List Entry) (alike : AreAlike s t H) where
  at_too : (revision : ℕ) (a b : Option SurfaceOf) → MayBeSameOn (raster_of s.scene) a b → IsCertifiedAt s H revision a → IsCertifiedAt t H revision b
  at_too revision None b same is = absurd is
  at_too revision (Some k) None same is = absurd same
  at_too revision (Some k) (Some l) same is =
      let r = raster_of s.scene in
      let good = good_too r (mask_in s H revision) (mask_in t H revision) (alike.masks revision) k l same (certified_is_good r (mask_in s H revision) k (has_phases s.scene) is.0 is.1) in
      (surface_shown r l, subst (λ (q : Raster). IsCertifiedSurface q (mask_in t H revision) l (surface_shown r l)) alike.raster (good_is_certified r (mask_in t H revision) l (has_phases s.scene) good))

  behind_too : (e : Entry) (a b : Option SurfaceOf) → MayBeSameOn (raster_of s.scene) a b → IsCertifiedAfter s H e a → IsCertifiedAfter t H e b
  behind_too (Published analyst revision) a b same is = at_too revision a b same is
  behind_too e a b same is = none_too (raster_of s.scene) a b same is

-- ---- the items of a report that has a session's head, and those of an equal one
module _ (s t : Session) (v w : ReportOf) (equal : IsSameReport v w) (head : HasHeadOf s v) where
  tiles_there : tiles_in v ≡ tiles_of s.scene.tiling
  tiles_there = rw (head.side, head.size.0 ∙ sym s.scene.same_width.1, head.size.1 ∙ sym s.scene.same_height.1) refl

  pub same_there : (a b : Option SurfaceOf) → MayBeSame v.width v.height (tiles_in v) a b → MayBeSameOn (raster_of s.scene) a b
  same_there a b same = rw (tiles_there, head.size.0, head.size.1) at same

  pub item_too : AreAlike s t (history_of v) → (i j : ItemOf) → IsSameItem v.width v.height (tiles_in v) i j → IsCertifiedAfter s (history_of v) i.entry i.surface → IsCertifiedAfter t (history_of w) j.entry j.surface
  item_too alike i j same is =
      let behind = behind_too s t (history_of v) alike i.entry i.surface j.surface (same_there i.surface j.surface same.surface) is in
      let entry = subst (λ (e : Entry). IsCertifiedAfter t (history_of v) e j.surface) same.entry behind in
      subst (λ (H : List Entry). IsCertifiedAfter t H j.entry j.surface) (same_history v w equal) entry

-- all of them, where the report is certified
pub items_too : (s t : Session) (v w : ReportOf) → IsSameReport v w → IsCertifiedReport s v → AreAlike s t (history_of v) → (k : ℕ) (j : ItemOf) → slice_get w.items k ≡ Some j → IsCertifiedAfter t (history_of w) j.entry j.surface
items_too s t v w equal c alike k j at =
    let there = same_item v w equal k j at in
    item_too s t v w equal (head_of s v c) alike there.0 j there.2 (c.surfaces k there.0 there.1)

pub equal_reports_are_certified_alike : EqualReportsAreCertifiedAlike
equal_reports_are_certified_alike s v w equal c = record {
  width = sym equal.width ∙ c.width;
  height = sym equal.height ∙ c.height;
  side = sym equal.side ∙ c.side;
  rule = sym equal.rule ∙ c.rule;
  terms = sym equal.terms ∙ c.terms;
  legal = subst (λ (H : List Entry). IsLegal s H) (same_history v w equal) c.legal;
  complete = subst (λ (H : List Entry). IsComplete s H) (same_history v w equal) c.complete;
  surfaces = items_too s s v w equal c (record { raster = refl; masks = λ revision x y a b. refl });
}
