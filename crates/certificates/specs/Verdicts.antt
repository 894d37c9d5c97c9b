-- What a check says of a tile: the first break of its certificate.
use Rattle.std.specs.Prelude.{◌≡◌, ◌≢◌, ℕ, ℤ, pos, Bool, List, length}
use Rattle.raster_model.specs.declared.edge.Edge.{Edge}
use Rattle.raster_model.specs.declared.scene.Scene.{Scene}
use Rattle.raster_model.specs.Sums.{Field}
use Rattle.raster_model.specs.Raster.{Raster, tile_cost}
use Rattle.raster_model.specs.Certificates.{IsTileEdge, FacesFit, face_bound}
use Rattle.raster_model.specs.Cells.{cell_count, face_at, IsCertifiedTile}
use Rattle.raster_model.specs.Scene.{raster_of}
use Rattle.certificates.specs.declared.results.TileResult.{TileResult}
use Rattle.certificates.specs.declared.verdicts.TileVerdict.{TileVerdict}
use Rattle.certificates.specs.declared.verdicts.TileVerdict.TheVariants.{Good, Shape, Range, FaceAtEdge, CostDiffers}
use Rattle.certificates.specs.EdgeOrder.{HoldsAtAll, IsFirstBreak}
use Rattle.certificates.specs.Results.{HasShape, AreInRange, IsFirstOutside, window_in, result_surface}

-- the faces fit at each inner edge of the tile, masked ends included; the first inner edge at which they do not
abbrev pub AllFacesFit : Raster → Field Bool → ℕ → Field ℤ → Type 0
AllFacesFit raster mask tile f = HoldsAtAll (IsTileEdge raster tile) (FacesFit raster mask tile f)

abbrev pub IsFirstUnfit : Raster → Field Bool → ℕ → Field ℤ → Edge → Type 0
IsFirstUnfit raster mask tile f = IsFirstBreak (IsTileEdge raster tile) (FacesFit raster mask tile f)

-- the verdict on a list of faces, for a surface
abbrev pub IsFacesVerdict : Raster → Field Bool → ℕ → Field ℤ → List ℤ → TileVerdict → Type 0
IsFacesVerdict raster mask tile S faces Good = IsCertifiedTile raster mask tile S faces
IsFacesVerdict raster mask tile S faces Shape = length faces ≢ cell_count raster tile
IsFacesVerdict raster mask tile S faces (Range x y) = ⊥
IsFacesVerdict raster mask tile S faces (FaceAtEdge e) = (length faces ≡ cell_count raster tile) × IsFirstUnfit raster mask tile (face_at raster tile faces) e
IsFacesVerdict raster mask tile S faces (CostDiffers cost bound) = (length faces ≡ cell_count raster tile) × AllFacesFit raster mask tile (face_at raster tile faces) × (pos cost ≡ tile_cost raster mask tile S) × (bound ≡ face_bound raster mask tile (face_at raster tile faces)) × (bound ≢ pos cost)

-- the verdict on the faces of a result's tile, for the result's surface
abbrev pub IsVerdictOnFaces : Scene → Field Bool → TileResult → TileVerdict → Type 0
IsVerdictOnFaces scene mask outcome = IsFacesVerdict (raster_of scene) mask outcome.tile (result_surface scene outcome) outcome.faces.items

-- the verdict on a result: its shape, then its range, then its faces
abbrev pub IsTileVerdict : Scene → Field Bool → TileResult → TileVerdict → Type 0
IsTileVerdict scene mask outcome Shape = HasShape scene outcome → ⊥
IsTileVerdict scene mask outcome (Range x y) = HasShape scene outcome × IsFirstOutside (window_in scene outcome) mask outcome.cycles.items x y
IsTileVerdict scene mask outcome verdict = HasShape scene outcome × AreInRange (window_in scene outcome) mask outcome.cycles.items × IsVerdictOnFaces scene mask outcome verdict

-- no input has two verdicts
abbrev pub FacesHaveOneVerdict : Type 0
FacesHaveOneVerdict = (raster : Raster) (mask : Field Bool) (tile : ℕ) (S : Field ℤ) (faces : List ℤ) (a b : TileVerdict) → IsFacesVerdict raster mask tile S faces a → IsFacesVerdict raster mask tile S faces b → a ≡ b

abbrev pub TilesHaveOneVerdict : Type 0
TilesHaveOneVerdict = (scene : Scene) (mask : Field Bool) (outcome : TileResult) (a b : TileVerdict) → IsTileVerdict scene mask outcome a → IsTileVerdict scene mask outcome b → a ≡ b
