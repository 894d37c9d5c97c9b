-- A session made of planes and scripts: words of helpers, which no clause of a public function cites.
use Rattle.std.specs.Prelude.{◌≡◌, Result, Ok, Err}
use Rattle.insar_ports.specs.Calls.{Call}
use Rattle.raster_model.specs.Masks.{IsMaskOf}
use Rattle.session_script.specs.declared.fault.SessionFault.{SessionFault}
use Rattle.session_script.specs.declared.session_use.SessionUse.{SessionUse}
use Rattle.session_script.specs.Layouts.{Layout}
use Rattle.session_script.specs.Parsing.{ThreePlanes, IsOutcome, session_parser}
use Rattle.session_script.specs.Sections.{Sections}
use Rattle.session_script.specs.Sessions.{SessionOf, mask_open_in}

-- the session is made of these planes and scripts
pub record IsMadeOf (read : ThreePlanes × Sections) (session : SessionOf) : Type 0 where
  pub phase_is : session.phase ≡ read.0.phase
  pub weights_are : session.weights ≡ read.0.weights
  pub mask_is : IsMaskOf session.mask read.0.phase.width read.0.phase.height (mask_open_in read.0.mask)
  pub scripts_are : session.scripts ≡ read.1

abbrev pub as_read : ThreePlanes × Sections → ThreePlanes × Sections
as_read read = read

-- a session is made of what the parser gives, or the call's outcome is its fault
abbrev pub IsParsedSession : {X : Type 0} → (X → SessionOf) → SessionUse → Layout → Call → Result X SessionFault → Type 0
IsParsedSession view usage layout call (Ok session) = (read : ThreePlanes × Sections) × IsMadeOf read (view session) × IsOutcome as_read (Ok read) call (session_parser usage layout)
IsParsedSession view usage layout call (Err fault) = IsOutcome as_read (Err fault) call (session_parser usage layout)
