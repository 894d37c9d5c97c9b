-- Words of helpers: a surface that a report shows, over its scene and a mask. No clause of a public function cites this file.
use Rattle.std.specs.Prelude.{◌≡◌, ℕ, ◌<◌, ℤ, pos, Bool, Option, Some, None, slice_get}
use Rattle.raster_model.specs.declared.session.Session.{Session}
use Rattle.raster_model.specs.Masks.{open_at}
use Rattle.raster_model.specs.Raster.{Raster, seam_cost}
use Rattle.raster_model.specs.Scene.{raster_of}
use Rattle.raster_model.specs.Seams.{AreRegions}
use Rattle.raster_model.specs.Sums.{Field}
use Rattle.surface_snapshots.specs.Parts.{tile_costs}
use Rattle.certificates.specs.declared.verdicts.SeamVerdict.{SeamVerdict}
use Rattle.certificates.specs.SeamVerdicts.{IsSeamVerdict}
use Rattle.tile_board.specs.declared.entry.Entry.{Entry}
use Rattle.tile_board.specs.declared.entry.Entry.TheVariants.{Revised, Kept, Published, Settled, Shown}
use Rattle.report_text.specs.Contents.{told_surface}
use Rattle.report_text.specs.Certified.{IsCertifiedAfter, history_of}
use Rattle.report_text.specs.Reports.{ItemOf, ReportOf, SurfaceOf}
use Rattle.report_check.specs.declared.shown.ShownSurface.{ShownSurface}
use Rattle.report_check.specs.declared.verdict.CheckVerdict.{CheckVerdict}
use Rattle.grid_writer.specs.Fits.{cycles_shown}
use Rattle.report_check.specs.Verdicts.{IsSurfaceVerdict, PassesSeams, surface_shown}

-- the raster, the open pixels, what is told
abbrev pub raster_shown : ShownSurface → Raster
raster_shown shown = raster_of shown.scene.now

abbrev pub open_shown : ShownSurface → Field Bool
open_shown shown = open_at shown.mask.now

abbrev pub told_shown : ShownSurface → SurfaceOf
told_shown shown = told_surface shown.told.now

-- the verdict on the flows, with some numbers of the regions
pub record IsShownFlowsVerdict (raster : Raster) (mask : Field Bool) (surface : SurfaceOf) (verdict : SeamVerdict) : Type 0 where
  pub labels : Field ℕ
  pub count : ℕ
  pub regions : AreRegions raster mask labels count
  pub says : IsSeamVerdict raster mask labels count (cycles_shown surface.values) surface.flows verdict

-- a surface with which nothing is wrong
pub record IsGoodSurface (raster : Raster) (mask : Field Bool) (surface : SurfaceOf) : Type 0 where
  pub passes : PassesSeams raster mask surface
  pub tile_cost : pos surface.tile_cost ≡ tile_costs raster mask (surface_shown raster surface)
  pub seam_cost_is : pos surface.seam_cost ≡ seam_cost raster mask (surface_shown raster surface)

-- what stands after an entry is so, or has this verdict
abbrev pub IsGoodAfter : Raster → Field Bool → Entry → Option SurfaceOf → Type 0
IsGoodAfter raster mask (Revised a edit) behind = behind ≡ None
IsGoodAfter raster mask (Kept t stamp) behind = behind ≡ None
IsGoodAfter raster mask (Published a revision) None = ⊥
IsGoodAfter raster mask (Published a revision) (Some k) = IsGoodSurface raster mask k
IsGoodAfter raster mask (Settled a revision) behind = behind ≡ None
IsGoodAfter raster mask (Shown a revision) behind = behind ≡ None

abbrev pub IsUnfitAfter : Raster → Field Bool → Entry → Option SurfaceOf → CheckVerdict → Type 0
IsUnfitAfter raster mask (Revised a edit) behind verdict = ⊥
IsUnfitAfter raster mask (Kept t stamp) behind verdict = ⊥
IsUnfitAfter raster mask (Published a revision) None verdict = ⊥
IsUnfitAfter raster mask (Published a revision) (Some k) verdict = IsSurfaceVerdict raster mask revision k verdict
IsUnfitAfter raster mask (Settled a revision) behind verdict = ⊥
IsUnfitAfter raster mask (Shown a revision) behind verdict = ⊥

-- what stands after all entries of a report is certified
abbrev pub AreCertifiedAfter : Session → ReportOf → Type 0
AreCertifiedAfter session report = (k : ℕ) (i : ItemOf) → slice_get report.items k ≡ Some i → IsCertifiedAfter session (history_of report) i.entry i.surface
