-- A surface over the whole raster, with the faces that certify it.
use Rattle.std.specs.Prelude.{◌≡◌, ◌*◌, ℤ, pos, Bool, List, length}
use Rattle.raster_model.specs.Sums.{Field}
use Rattle.raster_model.specs.Raster.{Raster, lifted}
use Rattle.raster_model.specs.Seams.{IsAnchored}
use Rattle.raster_model.specs.Whole.{IsCertifiedWhole, whole_cost}
use Rattle.whole_solver.specs.Cycles.{AreSmallCycles, whole_cycles}
use Rattle.whole_solver.specs.declared.result.WholeResult.{WholeResult}

-- lists of cycles and faces whose surface is congruent, anchored and certified whole
pub record AreRight (raster : Raster) (mask : Field Bool) (cycles faces : List ℤ) : Type 0 where
  pub count : length cycles ≡ raster.width * raster.height
  pub small : AreSmallCycles cycles
  pub anchored : IsAnchored raster mask (lifted raster (whole_cycles raster.width cycles))
  pub certified : IsCertifiedWhole raster mask (lifted raster (whole_cycles raster.width cycles)) faces

-- a good result: its surface is that, and costs what it says
pub record IsGoodWhole (raster : Raster) (mask : Field Bool) (w : WholeResult) : Type 0 where
  pub width : w.width ≡ raster.width
  pub right : AreRight raster mask w.cycles.items w.faces.items
  pub cost : pos w.cost ≡ whole_cost raster mask (lifted raster (whole_cycles raster.width w.cycles.items))
