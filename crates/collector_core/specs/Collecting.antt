-- What makes offsets and flows fit to be published with what they were found from.
use Rattle.std.specs.Arc.{arc_value}
use Rattle.certificates.specs.declared.results.SeamResult.{SeamResult}
use Rattle.certificates.specs.declared.verdicts.SeamVerdict.TheVariants.{Good}
use Rattle.seam_regions.specs.Regions.{AreRegionsOf}
use Rattle.seam_regions.specs.RegionsView.{RegionsView}
use Rattle.surface_snapshots.specs.Parts.{Parts, parts_from}
use Rattle.surface_snapshots.specs.Verdicts.{IsPartsVerdict}
use Rattle.tile_board.specs.declared.gathered.Gathered.{Gathered}
use Rattle.tile_board.specs.BoardView.{BoardView}
use Rattle.tile_board.specs.Calls.{ArePublishable, IsGathering}

-- over the regions of the gathered mask they certify the surface that they make of the gathered results
abbrev pub CertifyGathered : Gathered → SeamResult → Type 0
CertifyGathered gathered seams = (regions : RegionsView) → AreRegionsOf (arc_value gathered.session).scene.tiling gathered.mask regions → IsPartsVerdict (parts_from (arc_value gathered.session) gathered.mask regions gathered.tiles seams) Good

-- whichever board this was gathered from, all that it would publish with them is certified
abbrev pub WillPublish : Gathered → SeamResult → Type 0
WillPublish gathered seams = (board : BoardView) (parts : Parts) → IsGathering board gathered → ArePublishable board seams parts → IsPartsVerdict parts Good
