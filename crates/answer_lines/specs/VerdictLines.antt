-- The lines that tell verdicts on reports, each ended by LF.
use Rattle.std.specs.Prelude.{ℕ, Bool, true, false, List, [], ◌∷◌, ◌++◌, codes}
use Rattle.raster_model.specs.declared.edge.Edge.{Edge}
use Rattle.certificates.specs.declared.verdicts.SeamVerdict.{SeamVerdict}
use Rattle.certificates.specs.declared.verdicts.SeamVerdict.TheVariants as seam_verdicts
use Rattle.certificates.specs.declared.verdicts.TileVerdict.{TileVerdict}
use Rattle.certificates.specs.declared.verdicts.TileVerdict.TheVariants as tile_verdicts
use Rattle.text_lines.specs.Numbers.{number_text}
use Rattle.report_check.specs.declared.verdict.CheckVerdict.{CheckVerdict}
use Rattle.report_check.specs.declared.verdict.CheckVerdict.TheVariants.{Accepted, Header, History, Value, Tile, Seams, TileCost, SeamCost}
use Rattle.text_lines.specs.Text.{field_text}

-- an edge: its direction and its first pixel
abbrev pub direction : Bool → List ℕ
direction true = codes " down"
direction false = codes " right"

unfoldable pub edge_text : Edge → List ℕ
edge_text edge = direction edge.down ++ (field_text edge.x ++ field_text edge.y)

-- what the faces of a tile, and the flows at the seams, are refused for; Good and a Range that no check of these gives have no words
abbrev pub tile_words : TileVerdict → List ℕ
tile_words tile_verdicts.Good = []
tile_words tile_verdicts.Shape = codes " shape"
tile_words (tile_verdicts.Range x y) = []
tile_words (tile_verdicts.FaceAtEdge e) = codes " face" ++ edge_text e
tile_words (tile_verdicts.CostDiffers cost bound) = codes " cost" ++ (field_text cost ++ (codes " bound" ++ number_text bound))

abbrev pub seam_words : SeamVerdict → List ℕ
seam_words seam_verdicts.Good = []
seam_words seam_verdicts.Shape = codes " shape"
seam_words (seam_verdicts.Range region) = []
seam_words (seam_verdicts.Anchor cycles) = codes " anchor" ++ number_text cycles
seam_words (seam_verdicts.FlowAtEdge e) = codes " flow" ++ edge_text e
seam_words (seam_verdicts.Unbalanced region) = codes " unbalanced" ++ field_text region
seam_words (seam_verdicts.CostDiffers cost bound) = codes " cost" ++ (field_text cost ++ (codes " bound" ++ number_text bound))

-- the surface of a revision is refused, and what for
unfoldable pub surface_start : ℕ → List ℕ
surface_start revision = codes "refused surface" ++ field_text revision

abbrev pub surface_refused : ℕ → List ℕ → List ℕ
surface_refused revision words = surface_start revision ++ words

abbrev pub verdict_text : CheckVerdict → List ℕ
verdict_text Accepted = codes "accepted"
verdict_text (Header n) = codes "refused header" ++ field_text n
verdict_text (History n) = codes "refused history" ++ field_text n
verdict_text (Value revision x y) = surface_refused revision (codes " value" ++ (field_text x ++ field_text y))
verdict_text (Tile revision tile verdict) = surface_refused revision (codes " tile" ++ (field_text tile ++ tile_words verdict))
verdict_text (Seams revision verdict) = surface_refused revision (codes " seams" ++ seam_words verdict)
verdict_text (TileCost revision written counted) = surface_refused revision (codes " tilecost" ++ (field_text written ++ field_text counted))
verdict_text (SeamCost revision written counted) = surface_refused revision (codes " seamcost" ++ (field_text written ++ field_text counted))

-- the line of a verdict
abbrev pub verdict_line : CheckVerdict → List ℕ
verdict_line verdict = verdict_text verdict ++ 10 ∷ []
