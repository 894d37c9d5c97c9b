-- A report that is certified for a session: its history is legal and complete, and each published surface is certified at the mask of its revision, with its true costs.
use Rattle.std.specs.Prelude.{◌≡◌, ◌≢◌, ℕ, ◌<◌, ℤ, pos, Bool, IsTrue, if◌then◌else◌, List, map, Option, Some, None, slice_get}
use Rattle.raster_model.specs.declared.session.Session.{Session}
use Rattle.raster_model.specs.Best.{IsBest}
use Rattle.raster_model.specs.Cells.{IsCertifiedTile}
use Rattle.raster_model.specs.Flows.{AreCertifiedSeams}
use Rattle.raster_model.specs.Raster.{Raster, IsCongruent, seam_cost}
use Rattle.raster_model.specs.Scene.{raster_of}
use Rattle.raster_model.specs.Seams.{IsAnchored}
use Rattle.raster_model.specs.Sums.{Field}
use Rattle.surface_snapshots.specs.Parts.{tile_costs}
use Rattle.tile_board.specs.declared.entry.Entry.{Entry}
use Rattle.tile_board.specs.declared.entry.Entry.TheVariants.{Revised, Kept, Published, Settled, Shown}
use Rattle.tile_board.specs.Histories.{IsComplete, IsLegal, mask_in}
use Rattle.grid_writer.specs.Values.{no_data}
use Rattle.report_text.specs.Reports.{ItemOf, ReportOf, SurfaceOf}
use Rattle.text_parts.specs.Terms.{terms_of}

-- the grid shows a surface at open pixels, none of which has the NODATA value, and that value at masked ones
pub record ShowsSurface (raster : Raster) (mask : Field Bool) (values surface : Field ℤ) : Type 0 where
  pub shown : (x y : ℕ) → x < raster.width → y < raster.height → values x y ≡ (if mask x y then surface x y else no_data)
  pub told : (x y : ℕ) → x < raster.width → y < raster.height → IsTrue (mask x y) → values x y ≢ no_data

-- a congruent, anchored surface, which the faces certify in each tile and the flows at the seams, with its costs
pub record IsCertifiedSurface (raster : Raster) (mask : Field Bool) (k : SurfaceOf) (surface : Field ℤ) : Type 0 where
  pub shows : ShowsSurface raster mask k.values surface
  pub congruent : IsCongruent raster mask surface
  pub anchored : IsAnchored raster mask surface
  pub tiles : (t : ℕ) → t < raster.tile_count → IsCertifiedTile raster mask t surface (k.faces t)
  pub seams : AreCertifiedSeams raster mask surface k.flows
  pub tile_cost : pos k.tile_cost ≡ tile_costs raster mask surface
  pub seam_cost_is : pos k.seam_cost ≡ seam_cost raster mask surface

-- what stands after an entry of a history: after a publication a certified surface at the mask of its revision, after another entry none
abbrev pub IsCertifiedAt : Session → List Entry → ℕ → Option SurfaceOf → Type 0
IsCertifiedAt session H revision (Some k) = (surface : Field ℤ) × IsCertifiedSurface (raster_of session.scene) (mask_in session H revision) k surface
IsCertifiedAt session H revision None = ⊥

abbrev pub IsCertifiedAfter : Session → List Entry → Entry → Option SurfaceOf → Type 0
IsCertifiedAfter session H (Revised analyst edit) behind = behind ≡ None
IsCertifiedAfter session H (Kept tile stamp) behind = behind ≡ None
IsCertifiedAfter session H (Published analyst revision) behind = IsCertifiedAt session H revision behind
IsCertifiedAfter session H (Settled analyst revision) behind = behind ≡ None
IsCertifiedAfter session H (Shown analyst revision) behind = behind ≡ None

-- the history of a report
abbrev pub history_of : ReportOf → List Entry
history_of report = map (λ i. i.entry) report.items

pub record IsCertifiedReport (session : Session) (report : ReportOf) : Type 0 where
  pub width : report.width ≡ session.scene.phase.width
  pub height : report.height ≡ session.scene.phase.height
  pub side : report.side ≡ session.scene.tiling.side
  pub rule : report.rule ≡ session.scene.rule
  pub terms : report.terms ≡ terms_of session.scene.terms
  pub legal : IsLegal session (history_of report)
  pub complete : IsComplete session (history_of report)
  pub surfaces : (k : ℕ) (i : ItemOf) → slice_get report.items k ≡ Some i → IsCertifiedAfter session (history_of report) i.entry i.surface

-- each published surface is the best at the mask of its revision, and its grid shows it
abbrev pub IsBestAt : Session → List Entry → ℕ → Option SurfaceOf → Type 0
IsBestAt session H revision (Some k) = (surface : Field ℤ) × ShowsSurface (raster_of session.scene) (mask_in session H revision) k.values surface × IsBest (raster_of session.scene) (mask_in session H revision) surface
IsBestAt session H revision None = ⊥

abbrev pub SurfacesAreBest : Session → ReportOf → Type 0
SurfacesAreBest session report = (k : ℕ) (i : ItemOf) (analyst revision : ℕ) → slice_get report.items k ≡ Some i → i.entry ≡ Published analyst revision → IsBestAt session (history_of report) revision i.surface

abbrev pub CertifiedReportsAreBest : Type 0
CertifiedReportsAreBest = (session : Session) (report : ReportOf) → IsCertifiedReport session report → SurfacesAreBest session report
