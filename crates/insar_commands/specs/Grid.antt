-- What `grid` writes for a session: the grid of its last surface.
use Rattle.std.specs.Prelude.{◌≡◌, ℕ, List, [], Option, Some, None, filter_map, ⊤}
use Rattle.std.specs.List.{last_or}
use Rattle.raster_model.specs.declared.session.Session.{Session}
use Rattle.insar_words.specs.Asked.{Options}
use Rattle.grid_writer.specs.Grid.{grid_text}
use Rattle.grid_writer.specs.Grids.{IsGrid}
use Rattle.tile_board.specs.declared.entry.Entry.{Entry}
use Rattle.tile_board.specs.Histories.{newest_of}
use Rattle.report_text.specs.Certified.{IsBestAt, history_of}
use Rattle.report_text.specs.Reports.{ReportOf, SurfaceOf}
use Rattle.insar_commands.specs.Unwrap.{IsGiven, IsReportOf}

-- the surfaces of a report in order, and the last of them, where there is one
abbrev pub surfaces_of : ReportOf → List SurfaceOf
surfaces_of v = filter_map (λ i. i.surface) v.items

abbrev pub last_surface : ReportOf → Option SurfaceOf
last_surface v = last_or None (surfaces_of v)

-- the text of a surface's grid, and nothing where there is no surface; that of a report's last surface
abbrev pub surface_grid : ℕ → ℕ → Option SurfaceOf → List ℕ
surface_grid width height (Some k) = grid_text width height k.values
surface_grid width height None = []

unfoldable pub last_grid : ReportOf → List ℕ
last_grid v = surface_grid v.width v.height (last_surface v)

-- a last surface, where there is one, is a grid with a size within the limits and values that fit 64 bits
abbrev pub IsSurfaceGrid : ℕ → ℕ → Option SurfaceOf → Type 0
IsSurfaceGrid width height (Some k) = IsGrid (record { width = width; height = height; values = k.values })
IsSurfaceGrid width height None = ⊤

-- the text is the last grid of a report of the session that the bytes spell, and its numbers are in range
pub record IsGridAnswer (options : Options) (bytes text : List ℕ) : Type 0 where
  pub session : Session
  pub report : ReportOf
  pub given : IsGiven options bytes session
  pub reported : IsReportOf session report
  pub in_range : IsSurfaceGrid report.width report.height (last_surface report)
  pub written : text ≡ last_grid report

-- ---- which surface it is

-- a surface is the best at the mask of a revision; there is none exactly where there is no revision
abbrev pub IsBestIfAny : Session → List Entry → Option ℕ → Option SurfaceOf → Type 0
IsBestIfAny s H (Some revision) (Some k) = IsBestAt s H revision (Some k)
IsBestIfAny s H (Some revision) None = ⊥
IsBestIfAny s H None (Some k) = ⊥
IsBestIfAny s H None None = ⊤

-- the last surface of a session's report is the best at the mask of the newest published revision
abbrev pub LastSurfacesAreBest : Type 0
LastSurfacesAreBest = (s : Session) (v : ReportOf) → IsReportOf s v → IsBestIfAny s (history_of v) (newest_of (history_of v)) (last_surface v)
