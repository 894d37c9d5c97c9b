-- What a reader of some lines did, and what it read: words of helpers, which no clause of a public function cites.
use Rattle.std.specs.Prelude.{◌≡◌, ◌≢◌, ◌⊎◌, ℕ, ◌+◌, ◌≤◌, ◌<◌, List, [], ◌∷◌, ◌++◌, All, Option, Some, None, Result, Ok, Err, OnOk, IfOk, IfErr}
use Rattle.std.specs.Borrow.{GName}
use Rattle.std.specs.Global.{Vec}
use Rattle.insar_ports.specs.Calls.{Call, Moves, Takes}
use Rattle.insar_ports.specs.Feeding.{faults_of, handed_of, left_of, limit_of, source_name}
use Rattle.insar_ports.specs.Lines.{IsInLine}
use Rattle.insar_ports.specs.declared.feed.Feed.{Feed}
use Rattle.insar_ports.specs.declared.feed.Buffer.{Ghosts}
use Rattle.text_lines.specs.declared.fault.LineFault.{LineFault}
use Rattle.text_lines.specs.declared.lines.Lines.{Lines}
use Rattle.text_lines.specs.declared.lines.LineEnd.{LineEnd}
use Rattle.text_lines.specs.declared.lines.LineEnd.TheVariants.{Whole}
use Rattle.text_lines.specs.Forms.{AreWholeLines, Form}
use Rattle.text_lines.specs.LineWords.{HasNextCause, IsLineRead, TakesLines, lines_read}
use Rattle.text_lines.specs.Reading.{HasLineCause}
use Rattle.text_lines.specs.declared.fault.LineFault.TheVariants as faults

-- where a reader of lines stands: its feed's source and limit, the bytes that are left, how many were handed out, the
-- source's count of faults, and how many lines were read
pub record LinePlace : Type 0 where
  pub source : GName
  pub limit : ℕ
  pub left : Option (List ℕ)
  pub handed : ℕ
  pub faults : ℕ
  pub number : ℕ

abbrev pub place_of : {S : Type 0} {size : Ghosts (Vec ℕ)} → (S → Option (List ℕ)) → (S → ℕ) → Feed S (Vec ℕ) size → Lines → LinePlace
place_of left faults feed lines = record { source = source_name feed; limit = limit_of feed; left = left_of left feed; handed = handed_of feed; faults = faults_of faults feed; number = lines_read lines }

-- what was done between two places
abbrev pub between : LinePlace → LinePlace → Call
between v w = record { told = v.left; at = v.handed; left = w.left; end = w.handed; limit = v.limit; before = v.faults; after = w.faults }

pub record Advances (v w : LinePlace) : Type 0 where
  pub source : w.source ≡ v.source
  pub limit : w.limit ≡ v.limit
  pub moves : Moves (between v w)

-- whole lines that are this text were taken
pub record Took (text : List ℕ) (v w : LinePlace) : Type 0 where
  pub advance : Advances v w
  pub taken : TakesLines (λ bytes. bytes ≡ text) v.number w.number (between v w)

-- the form of the texts of values that may stand
abbrev pub TextOf : {A : Type 0} → (A → Type 0) → (A → List ℕ) → Form
TextOf {A} MayStand text bytes = (a : A) × (MayStand a × (bytes ≡ text a))

-- A value was read from its text, as `view` shows it; or a cause is told why no text of the form was read.
pub record ReadsPart {R A : Type 0} (view : R → A) (MayStand : A → Type 0) (text : A → List ℕ) (v w : LinePlace) (result : Result R LineFault) : Type 0 where
  pub advance : Advances v w
  pub read : IfOk result (λ r. MayStand (view r) × TakesLines (λ bytes. bytes ≡ text (view r)) v.number w.number (between v w))
  pub refused : IfErr result (HasLineCause (TextOf MayStand text) v.number (between v w))

-- texts of the form are whole lines, and none begins with another
pub record EndsItself (F : Form) : Type 0 where
  pub whole : (bytes : List ℕ) → F bytes → AreWholeLines bytes
  pub free : (bytes more : List ℕ) → F bytes → F (bytes ++ more) → more ≡ []

-- What was read has a text of the form; or a cause is told why none was read.
pub record ReadsText {R : Type 0} (F : Form) (MayStand : R → Type 0) (text : R → List ℕ) (v w : LinePlace) (result : Result R LineFault) : Type 0 where
  pub advance : Advances v w
  pub read : IfOk result (λ r. MayStand r × TakesLines (λ bytes. bytes ≡ text r) v.number w.number (between v w))
  pub refused : IfErr result (HasLineCause F v.number (between v w))

-- values that are shown as they are
abbrev pub itself : {A : Type 0} → A → A
itself a = a

-- two values, and their texts one after the other
abbrev pub both : {A B : Type 0} → (A → Type 0) → (B → Type 0) → A × B → Type 0
both P Q p = P p.0 × Q p.1

abbrev pub in_turn : {A B : Type 0} → (A → List ℕ) → (B → List ℕ) → A × B → List ℕ
in_turn f g p = f p.0 ++ g p.1

-- why a line was not read whole: as the reader of lines says, or it has more bytes than `most`, or the input cuts it
abbrev pub HasNoLineCause : ℕ → ℕ → Call → LineFault → Type 0
HasNoLineCause most done call fault = HasNextCause call fault ⊎ ((kept : List ℕ) × (line_end : LineEnd) × ((line_end ≢ Whole) × ((fault ≡ faults.Line (done + 1)) × IsLineRead most kept call line_end)))

-- the next line was read whole, and it is `kept`
pub record ReadsLine (most : ℕ) (kept : List ℕ) (v w : LinePlace) (result : Result (Unit {0}) LineFault) : Type 0 where
  pub advance : Advances v w
  pub number : OnOk result (w.number ≡ v.number + 1)
  pub few : w.handed ≤ 18446744073709551615
  pub line : OnOk result (Takes (between v w) (λ text rest. (text ≡ kept ++ 10 ∷ []) × All IsInLine kept))
  pub further : OnOk result ((v.handed < w.handed) × (w.handed ≤ v.limit))
  pub refused : IfErr result (HasNoLineCause most v.number (between v w))

-- what was parsed of line n, or its refusal
abbrev pub parsed_at : {A : Type 0} → ℕ → Option A → Result A LineFault
parsed_at n (Some a) = Ok a
parsed_at n None = Err (faults.Line n)
