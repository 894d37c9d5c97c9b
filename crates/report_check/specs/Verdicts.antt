-- The verdict on a report for a session: the first thing that is wrong with it, in a fixed order.
use Rattle.std.specs.Prelude.{◌≡◌, ◌≢◌, ◌⊎◌, ℕ, ◌+◌, ◌<◌, ◌≤◌, ℤ, pos, Bool, List, length, take, slice_get, Option, Some, None}
use Rattle.raster_model.specs.declared.session.Session.{Session}
use Rattle.raster_model.specs.Raster.{Raster, lifted, seam_cost}
use Rattle.raster_model.specs.Scene.{raster_of}
use Rattle.raster_model.specs.Seams.{AreRegions}
use Rattle.raster_model.specs.Sums.{Field}
use Rattle.raster_model.specs.Cells.{IsCertifiedTile}
use Rattle.surface_snapshots.specs.Parts.{tile_costs}
use Rattle.certificates.specs.declared.verdicts.SeamVerdict.{SeamVerdict}
use Rattle.certificates.specs.declared.verdicts.SeamVerdict.TheVariants as seam_verdicts
use Rattle.certificates.specs.declared.verdicts.TileVerdict.{TileVerdict}
use Rattle.certificates.specs.declared.verdicts.TileVerdict.TheVariants as tile_verdicts
use Rattle.certificates.specs.SeamVerdicts.{IsGoodAtSeams, IsSeamVerdict}
use Rattle.certificates.specs.Verdicts.{IsFacesVerdict}
use Rattle.tile_board.specs.declared.entry.Entry.{Entry}
use Rattle.tile_board.specs.declared.entry.Entry.TheVariants.{Published}
use Rattle.tile_board.specs.Histories.{IsComplete, IsLegal, IsStep, mask_in}
use Rattle.grid_writer.specs.Fits.{AllValuesFit, IsFirstUnfitValue, cycles_shown}
use Rattle.report_text.specs.Certified.{IsCertifiedAfter, IsCertifiedReport, history_of}
use Rattle.report_text.specs.Reports.{ItemOf, ReportOf, SurfaceOf}
use Rattle.text_parts.specs.Terms.{HasRampOf, HasRuleOf, HasSteepnessOf}
use Rattle.report_check.specs.declared.verdict.CheckVerdict.{CheckVerdict}
use Rattle.report_check.specs.declared.verdict.CheckVerdict.TheVariants.{Accepted, Header, History, Value, Tile, Seams, TileCost, SeamCost}

-- ---- the head: lines 2 to 6 give the session's size, side, rule, ramp and steepness; for a report of version 1 the plain terms stand for lines 5 and 6

abbrev pub HasReportSize : Session → ReportOf → Type 0
HasReportSize session report = (report.width ≡ session.scene.phase.width) × (report.height ≡ session.scene.phase.height)

abbrev pub HasSideOf : Session → ReportOf → Type 0
HasSideOf session report = report.side ≡ session.scene.tiling.side

pub record HasHeadOf (session : Session) (report : ReportOf) : Type 0 where
  pub size : HasReportSize session report
  pub side : HasSideOf session report
  pub rule : HasRuleOf session report.rule
  pub ramp : HasRampOf session report.terms
  pub steepness : HasSteepnessOf session report.terms

-- the first of them that does not has this number
abbrev pub DiffersAt : Session → ReportOf → ℕ → Type 0
DiffersAt s v n =
    ((n ≡ 2) × (HasReportSize s v → ⊥))
    ⊎ (((n ≡ 3) × (HasReportSize s v × (HasSideOf s v → ⊥)))
    ⊎ (((n ≡ 4) × (HasReportSize s v × (HasSideOf s v × (HasRuleOf s v.rule → ⊥))))
    ⊎ (((n ≡ 5) × (HasReportSize s v × (HasSideOf s v × (HasRuleOf s v.rule × (HasRampOf s v.terms → ⊥)))))
    ⊎ ((n ≡ 6) × (HasReportSize s v × (HasSideOf s v × (HasRuleOf s v.rule × (HasRampOf s v.terms × (HasSteepnessOf s v.terms → ⊥)))))))))

-- ---- the history: entry n, from 1, may not come after those before it; or all may and the scripts are not at their ends, and n is one more than their number

abbrev pub MayNotCome : Session → List Entry → Option Entry → Type 0
MayNotCome session H (Some e) = IsStep session H e → ⊥
MayNotCome session H None = IsComplete session H → ⊥

pub record BreaksHistoryAt (session : Session) (H : List Entry) (n : ℕ) : Type 0 where
  pub before : ℕ
  pub number : n ≡ before + 1
  pub some : before ≤ length H
  pub legal : IsLegal session (take before H)
  pub broken : MayNotCome session (take before H) (slice_get H before)

-- ---- a surface, at the mask of its revision

-- the surface that the values show
abbrev pub surface_shown : Raster → SurfaceOf → Field ℤ
surface_shown raster k = lifted raster (cycles_shown k.values)

-- the first so many tiles are certified; all are; and the seams are
abbrev pub TilesAreCertified : Raster → Field Bool → SurfaceOf → ℕ → Type 0
TilesAreCertified raster mask k count = (tile : ℕ) → tile < count → IsCertifiedTile raster mask tile (surface_shown raster k) (k.faces tile)

pub record PassesTiles (raster : Raster) (mask : Field Bool) (k : SurfaceOf) : Type 0 where
  pub values : AllValuesFit raster mask k.values
  pub tiles : TilesAreCertified raster mask k raster.tile_count

pub record PassesSeams (raster : Raster) (mask : Field Bool) (k : SurfaceOf) : Type 0 where
  pub tiles : PassesTiles raster mask k
  pub seams : IsGoodAtSeams raster mask (cycles_shown k.values) k.flows

-- a tile's faces have another verdict than Good, and those before it are certified; so with the flows, where the regions have their numbers
pub record IsFirstUnfitTile (raster : Raster) (mask : Field Bool) (k : SurfaceOf) (tile : ℕ) (verdict : TileVerdict) : Type 0 where
  pub exists : tile < raster.tile_count
  pub before : TilesAreCertified raster mask k tile
  pub verdict_is : IsFacesVerdict raster mask tile (surface_shown raster k) (k.faces tile) verdict
  pub not_good : verdict ≢ tile_verdicts.Good

pub record AreUnfitSeams (raster : Raster) (mask : Field Bool) (k : SurfaceOf) (verdict : SeamVerdict) : Type 0 where
  pub labels : Field ℕ
  pub count : ℕ
  pub regions : AreRegions raster mask labels count
  pub verdict_is : IsSeamVerdict raster mask labels count (cycles_shown k.values) k.flows verdict
  pub not_good : verdict ≢ seam_verdicts.Good

-- a cost is written so, and another is counted
abbrev pub IsMiscounted : ℕ → ℤ → ℕ → ℕ → Type 0
IsMiscounted told cost written counted = (written ≡ told) × ((pos counted ≡ cost) × (written ≢ counted))

-- what is wrong with the surface of a revision: its values, then its tiles, its seams, its two costs
abbrev pub IsSurfaceVerdict : Raster → Field Bool → ℕ → SurfaceOf → CheckVerdict → Type 0
IsSurfaceVerdict raster mask revision k Accepted = ⊥
IsSurfaceVerdict raster mask revision k (Header n) = ⊥
IsSurfaceVerdict raster mask revision k (History n) = ⊥
IsSurfaceVerdict raster mask revision k (Value told x y) = (told ≡ revision) × IsFirstUnfitValue raster mask k.values x y
IsSurfaceVerdict raster mask revision k (Tile told t verdict) = (told ≡ revision) × (AllValuesFit raster mask k.values × IsFirstUnfitTile raster mask k t verdict)
IsSurfaceVerdict raster mask revision k (Seams told verdict) = (told ≡ revision) × (PassesTiles raster mask k × AreUnfitSeams raster mask k verdict)
IsSurfaceVerdict raster mask revision k (TileCost told written counted) = (told ≡ revision) × (PassesSeams raster mask k × IsMiscounted k.tile_cost (tile_costs raster mask (surface_shown raster k)) written counted)
IsSurfaceVerdict raster mask revision k (SeamCost told written counted) = (told ≡ revision) × (PassesSeams raster mask k × ((pos k.tile_cost ≡ tile_costs raster mask (surface_shown raster k)) × IsMiscounted k.seam_cost (seam_cost raster mask (surface_shown raster k)) written counted))

-- ---- the report

-- a publication's surface has this verdict at the mask of its revision, and those before it are certified
pub record IsFirstUnfitSurface (session : Session) (report : ReportOf) (verdict : CheckVerdict) : Type 0 where
  pub at : ℕ
  pub item : ItemOf
  pub analyst : ℕ
  pub revision : ℕ
  pub surface : SurfaceOf
  pub item_is : slice_get report.items at ≡ Some item
  pub entry_is : item.entry ≡ Published analyst revision
  pub surface_is : item.surface ≡ Some surface
  pub before : (k : ℕ) (i : ItemOf) → k < at → slice_get report.items k ≡ Some i → IsCertifiedAfter session (history_of report) i.entry i.surface
  pub unfit : IsSurfaceVerdict (raster_of session.scene) (mask_in session (history_of report) revision) revision surface verdict

-- head and history are in order, and this surface is the first that is not
abbrev pub BreaksInSurfaces : Session → ReportOf → CheckVerdict → Type 0
BreaksInSurfaces session report verdict = HasHeadOf session report × (IsLegal session (history_of report) × (IsComplete session (history_of report) × IsFirstUnfitSurface session report verdict))

abbrev pub IsCheckVerdict : Session → ReportOf → CheckVerdict → Type 0
IsCheckVerdict session report Accepted = IsCertifiedReport session report
IsCheckVerdict session report (Header n) = DiffersAt session report n
IsCheckVerdict session report (History n) = HasHeadOf session report × BreaksHistoryAt session (history_of report) n
IsCheckVerdict session report (Value revision x y) = BreaksInSurfaces session report (Value revision x y)
IsCheckVerdict session report (Tile revision t verdict) = BreaksInSurfaces session report (Tile revision t verdict)
IsCheckVerdict session report (Seams revision verdict) = BreaksInSurfaces session report (Seams revision verdict)
IsCheckVerdict session report (TileCost revision written counted) = BreaksInSurfaces session report (TileCost revision written counted)
IsCheckVerdict session report (SeamCost revision written counted) = BreaksInSurfaces session report (SeamCost revision written counted)

-- a report has no two verdicts
abbrev pub ReportsHaveOneVerdict : Type 0
ReportsHaveOneVerdict = (session : Session) (report : ReportOf) (a b : CheckVerdict) → IsCheckVerdict session report a → IsCheckVerdict session report b → a ≡ b
