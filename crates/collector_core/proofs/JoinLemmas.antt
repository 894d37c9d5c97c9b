-- Tiles joined by solved offsets: the parts are certified.
use Rattle.std.proofs.Common.{◌≡◌, ℕ, ◌<◌, subst, Bool}
use Rattle.raster_model.specs.declared.scene.Scene.{Scene}
use Rattle.raster_model.specs.declared.session.Session.{Session}
use Rattle.raster_model.specs.MaskView.{MaskView}
use Rattle.raster_model.specs.Sums.{Field}
use Rattle.certificates.specs.declared.results.SeamResult.{SeamResult}
use Rattle.certificates.specs.declared.verdicts.SeamVerdict.TheVariants.{Good}
use Rattle.certificates.specs.TileSets.{TileSetView}
use Rattle.seam_regions.specs.RegionsView.{RegionsView}
use Rattle.offset_network.specs.Surfaces.{IsGoodSeams, IsGoodTileSet}
use Rattle.surface_snapshots.specs.Parts.{AreGoodTiles, parts_from}
use Rattle.surface_snapshots.specs.Verdicts.{IsPartsVerdict}

-- results that are good are so in their set
pub good_in_set : (s : Scene) (mask : Field Bool) (tiles : TileSetView) → tiles.tiling ≡ s.tiling → AreGoodTiles s mask tiles.results → IsGoodTileSet s mask tiles
good_in_set s mask tiles same good = record { tiling = same; each = λ t k below there. good.good t k there }

pub is_certified : (session : Session) (mask : MaskView) (regions : RegionsView) (tiles : TileSetView) (seams : SeamResult) → IsGoodSeams session.scene mask regions tiles seams → IsPartsVerdict (parts_from session mask regions tiles seams) Good
is_certified session mask regions tiles seams good = (
  good.count,
  (λ v below. good.in_range v (subst (λ (n : ℕ). v < n) good.count below)),
  good.certified,
)
