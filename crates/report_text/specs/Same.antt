-- No two reports have one text.
use Rattle.std.specs.Prelude.{◌≡◌, ℕ, ◌<◌, List, length, slice_get, Option, Some, None, ⊤}
use Rattle.report_text.specs.Contents.{IsReport}
use Rattle.report_text.specs.Reports.{ItemOf, ReportOf, SurfaceOf}
use Rattle.report_text.specs.Text.{report_text, tiles_in}

-- two surfaces are equal: costs, the values on the raster, the faces of each tile, flows
pub record IsSameSurface (width height tiles : ℕ) (k l : SurfaceOf) : Type 0 where
  pub tile_cost : k.tile_cost ≡ l.tile_cost
  pub seam_cost : k.seam_cost ≡ l.seam_cost
  pub values : (x y : ℕ) → x < width → y < height → k.values x y ≡ l.values x y
  pub faces : (t : ℕ) → t < tiles → k.faces t ≡ l.faces t
  pub flows : k.flows ≡ l.flows

abbrev pub MayBeSame : ℕ → ℕ → ℕ → Option SurfaceOf → Option SurfaceOf → Type 0
MayBeSame width height tiles None None = ⊤
MayBeSame width height tiles None (Some l) = ⊥
MayBeSame width height tiles (Some k) None = ⊥
MayBeSame width height tiles (Some k) (Some l) = IsSameSurface width height tiles k l

pub record IsSameItem (width height tiles : ℕ) (i j : ItemOf) : Type 0 where
  pub entry : i.entry ≡ j.entry
  pub surface : MayBeSame width height tiles i.surface j.surface

-- two lists of items are equal, one by one
abbrev pub AreSameItems : ℕ → ℕ → ℕ → List ItemOf → List ItemOf → Type 0
AreSameItems width height tiles items others = (length items ≡ length others) × ((k : ℕ) (i j : ItemOf) → slice_get items k ≡ Some i → slice_get others k ≡ Some j → IsSameItem width height tiles i j)

-- two reports are equal
pub record IsSameReport (v w : ReportOf) : Type 0 where
  pub version : v.version ≡ w.version
  pub width : v.width ≡ w.width
  pub height : v.height ≡ w.height
  pub side : v.side ≡ w.side
  pub rule : v.rule ≡ w.rule
  pub terms : v.terms ≡ w.terms
  pub items : AreSameItems v.width v.height (tiles_in v) v.items w.items

abbrev pub ReportTextsAreUnique : Type 0
ReportTextsAreUnique = (v w : ReportOf) → IsReport v → IsReport w → report_text v ≡ report_text w → IsSameReport v w
