-- A sheet as the definitions read it: a raster that is one tile.
use Rattle.std.specs.Prelude.{◌≡◌}
use Rattle.raster_model.specs.declared.scene.Scene.{Scene}
use Rattle.raster_model.specs.declared.sheet.Sheet.{Sheet}
use Rattle.raster_model.specs.Raster.{Raster}
use Rattle.raster_model.specs.Planes.{plane_sample}
use Rattle.raster_model.specs.Terms.{slope_of}
use Rattle.raster_model.specs.Weights.{edge_weight}

abbrev pub sheet_raster : Sheet → Raster
sheet_raster sheet = record { width = sheet.phase.now.width; height = sheet.phase.now.height; phase = plane_sample sheet.phase.now; slope = slope_of sheet.terms; weight = edge_weight sheet.rule sheet.weights.now; tile = λ x y. 0; tile_count = 1; steep = sheet.terms.steep }

-- the sheet has what the scene has beside its tiles
pub record IsSheetOf (scene : Scene) (sheet : Sheet) : Type 0 where
  pub phase : sheet.phase.now ≡ scene.phase
  pub weights : sheet.weights.now ≡ scene.weights
  pub rule : sheet.rule ≡ scene.rule
  pub edges : sheet.edges.now ≡ scene.edges
  pub terms : sheet.terms ≡ scene.terms
