-- Revisions as contracts see them: the present mask, the tiles, a stamp for each tile, and how many edits there were.
use Rattle.std.specs.Prelude.{ℕ, List}
use Rattle.raster_model.specs.declared.tiling.Tiling.{Tiling}
use Rattle.raster_model.specs.MaskView.{MaskView}

pub record RevisionsView : Type 0 where
  pub mask : MaskView
  pub tiling : Tiling
  pub stamps : List ℕ
  pub count : ℕ
