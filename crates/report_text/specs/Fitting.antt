-- The surfaces of a report that was read fit its raster.
use Rattle.std.specs.Prelude.{◌≡◌, ℕ, List, Option, Some, slice_get}
use Rattle.std.specs.Global.{Box}
use Rattle.report_text.specs.declared.items.Item.{Item}
use Rattle.report_text.specs.declared.items.ReportSurface.{ReportSurface}
use Rattle.report_text.specs.Text.{tiles_by}

-- a surface has a grid of this size and a list of faces for each of so many tiles
pub record SurfaceFits (width height tiles : ℕ) (k : ReportSurface) : Type 0 where
  pub wide : k.grid.width ≡ width
  pub high : k.grid.height ≡ height
  pub faces : k.faces.len ≡ tiles

abbrev pub MayFit : ℕ → ℕ → ℕ → Option (Box ReportSurface) → Type 0
MayFit width height tiles behind = (k : Box ReportSurface) → behind ≡ Some k → SurfaceFits width height tiles k.value

-- the surfaces of the items do, for a raster in tiles of this side
abbrev pub ItemsFit : ℕ → ℕ → ℕ → List Item → Type 0
ItemsFit width height side items = (n : ℕ) (i : Item) → slice_get items n ≡ Some i → MayFit width height (tiles_by width height side) i.surface
