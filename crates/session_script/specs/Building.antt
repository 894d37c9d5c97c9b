-- Planes, sections and scripts as they are being read: words of helpers, which no clause of a public function cites.
use Rattle.std.specs.Prelude.{◌≡◌, ℕ, ◌≤◌, List, length, take, Result, Ok, Err, ⊤}
use Rattle.insar_ports.specs.declared.feed.Line.{Line}
use Rattle.insar_ports.specs.declared.feed.Line.TheVariants.{Whole, Cut, Over}
use Rattle.pgm_planes.specs.declared.fault.InputFault.TheVariants.{ScriptLine, NoEnd}
use Rattle.session_script.specs.declared.fault.SessionFault.{SessionFault}
use Rattle.session_script.specs.declared.fault.SessionFault.TheVariants.{Input}
use Rattle.session_script.specs.declared.word.Word.{Word}
use Rattle.session_script.specs.Lines.{Spells, SpellsNone}
use Rattle.std.specs.Global.{Vec}
use Rattle.edge_weights.specs.declared.parts.SessionParts.{SessionParts}
use Rattle.edge_weights.specs.declared.whole.WholeParts.{WholeParts}
use Rattle.raster_model.specs.declared.script.Script.{Script}
use Rattle.pgm_planes.specs.Planes.{plane_of}
use Rattle.session_script.specs.declared.parts.Planes.{Planes}
use Rattle.session_script.specs.declared.sections.Sections.{Sections as SectionsRead}
use Rattle.session_script.specs.Parsing.{ThreePlanes, three}
use Rattle.session_script.specs.Sections.{Sections, sections_of}

abbrev pub sections_in : SectionsRead → Sections
sections_in read = sections_of read.scripts.items

abbrev pub scripts_in : Vec Script → Sections
scripts_in scripts = sections_of scripts.items

abbrev pub planes_in : Planes → ThreePlanes
planes_in read = three (plane_of read.phase) (plane_of read.weights) (plane_of read.mask)

abbrev pub parts_read : SessionParts → ThreePlanes × Sections
parts_read parts = (three (plane_of parts.phase) (plane_of parts.weights) (plane_of parts.mask), scripts_in parts.scripts)

abbrev pub whole_parts_read : WholeParts → ThreePlanes × Sections
whole_parts_read parts = (three (plane_of parts.phase) (plane_of parts.weights) (plane_of parts.mask), scripts_in parts.scripts)

-- a read of a line put no more bytes than these
abbrev pub FitsIn : Line → List ℕ → Type 0
FitsIn (Whole n) into = n ≤ length into
FitsIn (Cut n) into = n ≤ length into
FitsIn Over into = ⊤

-- what the line with this number is, of which these bytes were read
abbrev pub IsSpelledLine : ℕ → Line → List ℕ → Result Word SessionFault → Type 0
IsSpelledLine number (Whole n) into (Ok word) = Spells (take n into) word
IsSpelledLine number (Whole n) into (Err fault) = SpellsNone (take n into) × (fault ≡ Input (ScriptLine number))
IsSpelledLine number (Cut n) into result = result ≡ Err (Input NoEnd)
IsSpelledLine number Over into result = result ≡ Err (Input (ScriptLine number))
