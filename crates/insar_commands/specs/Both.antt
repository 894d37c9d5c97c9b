-- A session and then a text of some form, as `check` and `check-whole` read them, and how a verdict on the text is told.
use Rattle.std.specs.Prelude.{◌≡◌, ◌≢◌, ◌⊎◌, ◌<◌, ◌≤◌, ℕ, List, length, take, Option, Some, IfSome}
use Rattle.insar_ports.specs.Bytes.{with_end}
use Rattle.raster_model.specs.declared.session.Session.{Session}
use Rattle.raster_model.specs.Limits.{max_report_bytes}
use Rattle.insar_words.specs.Asked.{Options}
use Rattle.session_script.specs.declared.session_use.SessionUse.TheVariants.{BeforeReport}
use Rattle.session_script.specs.Layouts.{Layout, as_whole, in_tiles}
use Rattle.session_script.specs.Sessions.{HasLaidFault, IsSessionLaid, SessionOf, session_of}
use Rattle.text_lines.specs.Forms.{Begins, EndsIn, Form}
use Rattle.text_parts.specs.Reading.{HasBrokenTextLine}
use Rattle.insar_commands.specs.declared.both.TheConstants.{MAX_WHOLE_BYTES}
use Rattle.insar_commands.specs.Options.{HasOptions}
use Rattle.insar_commands.specs.Run.{ReadsAll, Run}
use Rattle.answer_lines.specs.declared.refusal.Refusal.{Refusal}
use Rattle.answer_lines.specs.declared.refusal.Refusal.TheVariants as refusals

-- the most bytes of the text: of one after a session in tiles, and of one after a session without tiles
abbrev pub most_of_text : Layout → ℕ
most_of_text (in_tiles side) = max_report_bytes
most_of_text as_whole = MAX_WHOLE_BYTES

-- the bytes are the text of a session that is laid so, and then bytes of which P holds
abbrev pub AfterLaid : Layout → List ℕ → (List ℕ → Type 0) → Type 0
AfterLaid layout bytes P = (s : SessionOf) × (rest : List ℕ) × (IsSessionLaid BeforeReport layout bytes s rest × P rest)

abbrev pub AfterSession : ℕ → List ℕ → (List ℕ → Type 0) → Type 0
AfterSession side bytes P = AfterLaid (in_tiles side) bytes P

-- the bytes are the text of a session and then one of the form that is not too long
abbrev pub IsCheckableBy : Form → Layout → List ℕ → Type 0
IsCheckableBy IsText layout bytes = AfterLaid layout bytes (λ rest. IsText rest × (length rest ≤ most_of_text layout))

-- more bytes are there than the text may have, and the limit cuts a line
abbrev pub IsTooLong : Form → ℕ → List ℕ → Type 0
IsTooLong IsText most rest = (most < length rest) × ((n : ℕ) × EndsIn (Begins IsText) n (take most rest))

-- the break of the bytes for which a check is refused: a fault of the session; the first broken line of the text; too long a text
abbrev pub BreaksBothBy : Form → Layout → List ℕ → Refusal → Type 0
BreaksBothBy IsText layout bytes (refusals.Input fault) = HasLaidFault BeforeReport layout bytes fault
BreaksBothBy IsText layout bytes (refusals.ReportLine n) = AfterLaid layout bytes (HasBrokenTextLine IsText (most_of_text layout) n)
BreaksBothBy IsText layout bytes refusals.ReportLong = AfterLaid layout bytes (IsTooLong IsText (most_of_text layout))
BreaksBothBy IsText layout bytes refusal = ⊥

-- the bytes are the text of this session, which is laid so and on the options, and then this text, which is not too long
pub record IsBothBy {X : Type 0} (layout : Layout) (view : X → SessionOf) (IsOn : X → Type 0) (bytes : List ℕ) (session : X) (text : List ℕ) : Type 0 where
  pub spelled : IsSessionLaid BeforeReport layout bytes (view session) text
  pub options_are : IsOn session
  pub within : length text ≤ most_of_text layout

abbrev pub IsBoth : Options → List ℕ → Session → List ℕ → Type 0
IsBoth options = IsBothBy (in_tiles options.side) session_of (HasOptions options)

-- where the bytes are told, they are both, and nothing is left
abbrev pub AreRead : {X : Type 0} → (List ℕ → X → List ℕ → Type 0) → Option (List ℕ) → Option (List ℕ) → X → List ℕ → Type 0
AreRead AreBoth told left session text = ReadsAll told left (λ bytes. AreBoth bytes session text)

-- where the bytes are told, this session, which is on the options, was read from their front, and the rest is left
abbrev pub IsFirstRead : {X : Type 0} → Layout → (X → SessionOf) → (X → Type 0) → Option (List ℕ) → Option (List ℕ) → X → Type 0
IsFirstRead layout view IsOn told left session = IfSome told (λ bytes. (rest : List ℕ) × ((left ≡ Some rest) × (IsSessionLaid BeforeReport layout bytes (view session) rest × IsOn session)))

-- ---- verdicts, one of which is the good one

-- the bytes are the text of a session and then of what is told, in its ranges, for which this is the verdict
pub record IsJudgedBy {X T V : Type 0} (AreBoth : List ℕ → X → List ℕ → Type 0) (text_of : T → List ℕ) (InRange : T → Type 0) (IsVerdict : X → T → V → Type 0) (bytes : List ℕ) (verdict : V) : Type 0 where
  pub session : X
  pub told : T
  pub both : AreBoth bytes session (text_of told)
  pub in_range : InRange told
  pub verdict_is : IsVerdict session told verdict

-- the status is 0 if the verdict is the good one, and 1 if it is not
abbrev pub IsStatusBy : {V : Type 0} → V → V → ℕ → Type 0
IsStatusBy good verdict status = ((verdict ≡ good) × (status ≡ 0)) ⊎ ((verdict ≢ good) × (status ≡ 1))

-- a verdict that is judged, with its status and its line
abbrev pub IsVerdictBy : {V : Type 0} → V → (V → List ℕ) → (V → Type 0) → ℕ → List ℕ → Type 0
IsVerdictBy {V} good line_of IsJudged status text = (verdict : V) × (IsJudged verdict × (IsStatusBy good verdict status × (text ≡ line_of verdict)))

-- a verdict is told: by status 0 if it is the good one and by 1 if it is not, and by its line
abbrev pub IsToldBy : {V : Type 0} → V → (V → List ℕ) → ℕ → Run → V → Type 0
IsToldBy good line_of status run verdict = (status ≡ 0 → verdict ≡ good) × ((status ≡ 1 → verdict ≢ good) × (status ≤ 1 → run.held_now ≡ with_end run.held (line_of verdict)))
