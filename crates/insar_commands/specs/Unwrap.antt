-- What `unwrap` reads and writes: the headline.
use Rattle.std.specs.Prelude.{◌≡◌, ℕ, List, [], Some, IfSome}
use Rattle.insar_ports.specs.Bytes.{with_end}
use Rattle.pgm_planes.specs.declared.fault.InputFault.{InputFault}
use Rattle.raster_model.specs.declared.session.Session.{Session}
use Rattle.insar_words.specs.Asked.{Options}
use Rattle.session_script.specs.declared.session_use.SessionUse.TheVariants.{Alone}
use Rattle.session_script.specs.Sessions.{HasFault, IsSessionIn, SessionOf, session_of}
use Rattle.report_text.specs.Certified.{IsCertifiedReport, SurfacesAreBest, history_of}
use Rattle.report_text.specs.Contents.{IsReport}
use Rattle.report_text.specs.Reports.{HasItsVersion, ReportOf}
use Rattle.report_text.specs.Text.{report_text}
use Rattle.tile_board.specs.Runs.{PublishedRise, ShownAreNewest}
use Rattle.insar_commands.specs.Options.{HasOptions}
use Rattle.insar_commands.specs.Run.{Run}
use Rattle.answer_lines.specs.declared.refusal.Refusal.{Refusal}
use Rattle.answer_lines.specs.declared.refusal.Refusal.TheVariants as refusals

-- the bytes are the text of a session that stands alone; they are that of some session
abbrev pub IsInput : ℕ → List ℕ → SessionOf → Type 0
IsInput side bytes s = IsSessionIn Alone side bytes s []

abbrev pub IsSomeInput : ℕ → List ℕ → Type 0
IsSomeInput side bytes = (s : SessionOf) × IsInput side bytes s

-- they are the text of this session, which is on these options
pub record IsGiven (options : Options) (bytes : List ℕ) (s : Session) : Type 0 where
  pub spelled : IsInput options.side bytes (session_of s)
  pub options_are : HasOptions options s

-- the bytes have this fault as a session that stands alone, in tiles of this side
abbrev pub HasInputFault : ℕ → List ℕ → InputFault → Type 0
HasInputFault side bytes fault = HasFault Alone side bytes fault

-- the break of the bytes for which a session that stands alone is refused
abbrev pub BreaksAlone : ℕ → List ℕ → Refusal → Type 0
BreaksAlone side bytes (refusals.Input fault) = HasInputFault side bytes fault
BreaksAlone side bytes refusal = ⊥

-- the report of a session: its history is legal and complete; each surface that it publishes is the best at the mask of its revision, and certified; each time a surface is shown it is the newest; it has version 1 exactly where the terms are the plain ones
pub record IsReportOf (s : Session) (v : ReportOf) : Type 0 where
  pub certified : IsCertifiedReport s v
  pub best : SurfacesAreBest s v
  pub newest : ShownAreNewest (history_of v)
  pub rising : PublishedRise (history_of v)
  pub versioned : HasItsVersion v

-- the text is that of a report of the session that the bytes spell, in which each number is in its range
pub record IsReportAnswer (options : Options) (bytes text : List ℕ) : Type 0 where
  pub session : Session
  pub report : ReportOf
  pub given : IsGiven options bytes session
  pub reported : IsReportOf session report
  pub in_range : IsReport report
  pub written : text ≡ report_text report

-- where the bytes are told, they are a session, nothing of it is left, and the sink gained exactly the text of its report, in which each number is in its range
abbrev pub IsDone : Options → Run → Type 0
IsDone options run = IfSome run.told (λ bytes. (text : List ℕ) × (IsReportAnswer options bytes text × ((run.left ≡ Some []) × (run.held_now ≡ with_end run.held text))))
