-- The parts of a report's text: words of helpers, which no clause of a public function cites.
use Rattle.std.specs.Prelude.{ℕ, ◌<◌, IsTrue, ℤ, List, ◌++◌, Option, Some, None, codes, flat_map, map, ⊤}
use Rattle.std.specs.Global.{Vec}
use Rattle.std.specs.List.{AllByRecursion}
use Rattle.insar_ports.specs.Calls.{Call}
use Rattle.text_lines.specs.declared.fault.LineFault.{LineFault}
use Rattle.text_lines.specs.Reading.{HasLineCause}
use Rattle.raster_model.specs.Limits.{IsTileSide}
use Rattle.raster_model.specs.declared.weights.RuleKind.{RuleKind}
use Rattle.raster_model.specs.Sums.{Field}
use Rattle.text_lines.specs.Forms.{Form}
use Rattle.grid_writer.specs.Grid.{grid_text}
use Rattle.grid_writer.specs.Grids.{AreLong}
use Rattle.text_lines.specs.Numbers.{AreLongs}
use Rattle.tile_board.specs.declared.entry.Entry.{Entry}
use Rattle.report_text.specs.declared.head.Head.{Head}
use Rattle.report_text.specs.declared.items.Item.{Item}
use Rattle.report_text.specs.Contents.{IsEntryOfWords, IsItemInRange, IsSurfaceInRange, lists_of, told_item}
use Rattle.text_lines.specs.Parsing.{IsAnyRule, IsWide}
use Rattle.report_text.specs.Reports.{ItemOf, is_published}
use Rattle.text_parts.specs.Steps.{TextOf, both, in_turn}
use Rattle.report_text.specs.Terms.{AreTermsIn, IsVersion}
use Rattle.report_text.specs.Text.{all_faces_text, flows_line, item_text, surface_block_text, terms_text, tile_line, version_line}
use Rattle.text_parts.specs.Text.{ended_line, rule_line, size_line}
use Rattle.text_parts.specs.Parts.{IsRasterSize}

abbrev pub MayStand : Option Entry → Type 0
MayStand None = ⊤
MayStand (Some entry) = IsEntryOfWords entry

-- the side and the rule; the size before them; the version before these
abbrev pub IsTiling : ℕ × RuleKind → Type 0
IsTiling = both IsTileSide IsAnyRule

abbrev pub tiling_text : ℕ × RuleKind → List ℕ
tiling_text = in_turn (ended_line tile_line) (ended_line rule_line)

abbrev pub IsFrame : (ℕ × ℕ) × (ℕ × RuleKind) → Type 0
IsFrame = both IsRasterSize IsTiling

abbrev pub frame_text : (ℕ × ℕ) × (ℕ × RuleKind) → List ℕ
frame_text = in_turn (ended_line size_line) tiling_text

abbrev pub FrontOf : Type 0
FrontOf = ℕ × ((ℕ × ℕ) × (ℕ × RuleKind))

abbrev pub IsReportFront : FrontOf → Type 0
IsReportFront = both IsVersion IsFrame

abbrev pub front_text : FrontOf → List ℕ
front_text = in_turn (ended_line version_line) frame_text

abbrev pub front_in : Head → FrontOf
front_in head = (head.version, ((head.width, head.height), (head.side, head.rule)))

abbrev pub IsTermsText : ℕ → Form
IsTermsText version = TextOf (AreTermsIn version) (terms_text version)

-- the faces of the tiles below a number
abbrev pub AreFacesBelow : ℕ → (ℕ → List ℤ) → Type 0
AreFacesBelow tiles faces = (tile : ℕ) → tile < tiles → AreLongs (faces tile)

abbrev pub AreFacesOf : ℕ → List ℤ → Type 0
AreFacesOf tile faces = IsWide tile × AreLongs faces

-- the faces and the flows; the values before them
abbrev pub AreCertificates : ℕ → (ℕ → List ℤ) × List ℤ → Type 0
AreCertificates tiles = both (AreFacesBelow tiles) AreLongs

abbrev pub certificates_text : ℕ → (ℕ → List ℤ) × List ℤ → List ℕ
certificates_text tiles = in_turn (all_faces_text tiles) (ended_line flows_line)

abbrev pub AreSolved : ℕ → ℕ → ℕ → Field ℤ × ((ℕ → List ℤ) × List ℤ) → Type 0
AreSolved width height tiles = both (AreLong width height) (AreCertificates tiles)

abbrev pub solved_text : ℕ → ℕ → ℕ → Field ℤ × ((ℕ → List ℤ) × List ℤ) → List ℕ
solved_text width height tiles = in_turn (grid_text width height) (certificates_text tiles)

abbrev pub lists_in : Vec (Vec ℤ) → ℕ → List ℤ
lists_in lists = lists_of lists.items

abbrev pub items_in : Vec Item → List ItemOf
items_in items = map told_item items.items

-- the block of a surface
abbrev pub IsSurfaceText : ℕ → ℕ → ℕ → Form
IsSurfaceText width height tiles = TextOf (IsSurfaceInRange width height tiles) (surface_block_text width height tiles)

-- items, and then `end`
abbrev pub items_text : ℕ → ℕ → ℕ → List ItemOf → List ℕ
items_text width height tiles items = flat_map (item_text width height tiles) items ++ codes "end\n"

abbrev pub AreItems : ℕ → ℕ → ℕ → List ItemOf → Type 0
AreItems width height tiles items = AllByRecursion (IsItemInRange width height tiles) items

abbrev pub IsItemsText : ℕ → ℕ → ℕ → Form
IsItemsText width height tiles = TextOf (AreItems width height tiles) (items_text width height tiles)

-- why no lines were read after an entry: it is a publication, and a surface was not read
abbrev pub HasAfterCause : ℕ → ℕ → ℕ → Entry → ℕ → Call → LineFault → Type 0
HasAfterCause width height tiles entry done call fault = IsTrue (is_published entry) × HasLineCause (IsSurfaceText width height tiles) done call fault
