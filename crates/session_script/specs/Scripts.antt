-- The script part of a session as bytes: lines of at most 64 bytes, each ended by a line feed (10).
use Rattle.std.specs.Prelude.{◌≡◌, ◌≢◌, ◌⊎◌, ℕ, ◌+◌, ◌≤◌, List, [], ◌∷◌, ◌++◌, length, All, Some}
use Rattle.insar_ports.specs.Lines.{IsInLine}
use Rattle.raster_model.specs.declared.script.Command.TheVariants.{Settle, Show}
use Rattle.pgm_planes.specs.declared.fault.InputFault.{InputFault}
use Rattle.pgm_planes.specs.declared.fault.InputFault.TheVariants.{ScriptLine, NoEnd, AfterEnd}
use Rattle.session_script.specs.declared.session_use.SessionUse.{SessionUse}
use Rattle.session_script.specs.declared.session_use.SessionUse.TheVariants.{Alone}
use Rattle.session_script.specs.declared.word.Word.{Word}
use Rattle.session_script.specs.declared.word.Word.TheVariants.{End}
use Rattle.session_script.specs.Lines.{Spells, SpellsNone}
use Rattle.session_script.specs.Sections.{Sections, Frame, words_of, line_count, AreWithinLimits, word_broken}

-- the bytes begin with a line that spells the word, and then `rest` stands
pub record BeginsLine (bytes : List ℕ) (word : Word) (rest : List ℕ) : Type 0 where
  pub line : List ℕ
  pub parts : bytes ≡ line ++ 10 ∷ rest
  pub short : length line ≤ 64
  pub spells : Spells line word

-- lines of these words, and then `rest`
abbrev pub AreLines : List ℕ → List Word → List ℕ → Type 0
AreLines bytes [] rest = bytes ≡ rest
AreLines bytes (word ∷ words) rest = (others : List ℕ) × BeginsLine bytes word others × AreLines others words rest

-- lines of sections that are within the limits, and then `rest`
pub record StandBefore (frame : Frame) (bytes : List ℕ) (sections : Sections) (rest : List ℕ) : Type 0 where
  pub lines : AreLines bytes (words_of sections) rest
  pub within : AreWithinLimits frame sections

-- sections and the line `end`, and then `rest`
abbrev pub AreSections : Frame → List ℕ → Sections → List ℕ → Type 0
AreSections frame bytes sections rest = (between : List ℕ) × StandBefore frame bytes sections between × BeginsLine between End rest

-- what is meant where there is no section: one analyst, who settles and shows
abbrev pub usual : Sections
usual = (Settle ∷ Show ∷ []) ∷ []

abbrev pub meant : Sections → Sections
meant [] = usual
meant (first ∷ sections) = first ∷ sections

-- a session that stands alone may end without a script part; otherwise sections and the line `end` stand, after which
-- it ends
abbrev pub HasNoScript : SessionUse → List ℕ → Sections → List ℕ → Type 0
HasNoScript usage bytes scripts rest = (usage ≡ Alone) × (bytes ≡ []) × (scripts ≡ usual) × (rest ≡ [])

pub record HasScripts (frame : Frame) (usage : SessionUse) (bytes : List ℕ) (scripts : Sections) (rest : List ℕ) : Type 0 where
  pub sections : Sections
  pub are : AreSections frame bytes sections rest
  pub means : scripts ≡ meant sections
  pub ends : usage ≡ Alone → rest ≡ []

abbrev pub IsScriptPart : Frame → SessionUse → List ℕ → Sections → List ℕ → Type 0
IsScriptPart frame usage bytes scripts rest = HasNoScript usage bytes scripts rest ⊎ HasScripts frame usage bytes scripts rest

-- ---- breaks

-- the bytes begin with more than 64 bytes without a line feed, or with a line that spells no word
abbrev pub IsLongLine : List ℕ → Type 0
IsLongLine bytes = (line : List ℕ) × (others : List ℕ) × (bytes ≡ line ++ others) × (length line ≡ 65) × All IsInLine line

pub record IsUnknownLine (bytes : List ℕ) : Type 0 where
  pub line : List ℕ
  pub others : List ℕ
  pub parts : bytes ≡ line ++ 10 ∷ others
  pub whole : All IsInLine line
  pub short : length line ≤ 64
  pub spells : SpellsNone line

abbrev pub IsNoLine : List ℕ → Type 0
IsNoLine bytes = IsLongLine bytes ⊎ IsUnknownLine bytes

-- the input ends within a line
abbrev pub IsCutLine : List ℕ → Type 0
IsCutLine bytes = (length bytes ≤ 64) × All IsInLine bytes

-- after good lines stands one that spells no word, or the input ends within one
pub record BreaksAtLine (frame : Frame) (bytes : List ℕ) (fault : InputFault) : Type 0 where
  pub sections : Sections
  pub rest : List ℕ
  pub before : StandBefore frame bytes sections rest
  pub why : (IsNoLine rest × (fault ≡ ScriptLine (line_count sections + 1))) ⊎ (IsCutLine rest × (fault ≡ NoEnd))

-- after good lines stands a word that may not
pub record BreaksAtWord (frame : Frame) (bytes : List ℕ) (fault : InputFault) : Type 0 where
  pub sections : Sections
  pub rest : List ℕ
  pub word : Word
  pub others : List ℕ
  pub before : StandBefore frame bytes sections rest
  pub next : BeginsLine rest word others
  pub broken : word_broken frame (line_count sections + 1) sections word ≡ Some fault

abbrev pub SectionsBreak : Frame → List ℕ → InputFault → Type 0
SectionsBreak frame bytes fault = BreaksAtLine frame bytes fault ⊎ BreaksAtWord frame bytes fault

-- a byte stands after the line `end`; places count from the start, where the first of the bytes has the place `at`
pub record ContinuesAfterEnd (frame : Frame) (at : ℕ) (bytes : List ℕ) (fault : InputFault) : Type 0 where
  pub sections : Sections
  pub rest : List ℕ
  pub place : ℕ
  pub are : AreSections frame bytes sections rest
  pub some : rest ≢ []
  pub place_is : place + length rest ≡ at + length bytes
  pub told : fault ≡ AfterEnd place

-- the first break of the script part
abbrev pub ScriptBreak : Frame → SessionUse → ℕ → List ℕ → InputFault → Type 0
ScriptBreak frame usage at bytes fault = (SectionsBreak frame bytes fault × (usage ≡ Alone → bytes ≢ [])) ⊎ ((usage ≡ Alone) × ContinuesAfterEnd frame at bytes fault)
