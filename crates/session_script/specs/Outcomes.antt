-- What a call that reads a session does, whatever it answers.
use Rattle.std.specs.Prelude.{◌≡◌, ℕ, List, IfErr, IfOk, IfSome, Result, Err}
use Rattle.insar_ports.specs.Calls.{Call, Moves}
use Rattle.pgm_planes.specs.declared.fault.InputFault.{InputFault}
use Rattle.pgm_planes.specs.declared.fault.InputFault.TheVariants.{TooLong}
use Rattle.edge_weights.specs.declared.whole.WholeSession.{WholeSession}
use Rattle.raster_model.specs.declared.session.Session.{Session}
use Rattle.session_script.specs.declared.fault.SessionFault.{SessionFault}
use Rattle.session_script.specs.declared.fault.SessionFault.TheVariants.{Input}
use Rattle.session_script.specs.declared.session_use.SessionUse.{SessionUse}
use Rattle.session_script.specs.Causes.{HasLaidCause, IsAt, IsReadAs, IsRefusedFor}
use Rattle.session_script.specs.Layouts.{Layout, as_whole, in_tiles, most_bytes}
use Rattle.session_script.specs.Reaching.{Reaches}
use Rattle.session_script.specs.Sessions.{HasLaidFault, IsSessionLaid, SessionOf, session_of, whole_session_of}

-- What was handed out is what the feed has no more. What is read is spelled so, and what follows is left; what is spelled so is
-- read. A refusal tells the first break, or why else there is no session; more bytes are told where so many were handed out and
-- another is there; and what has a fault is refused with it.
pub record IsLaidOutcome {X : Type 0} (view : X → SessionOf) (usage : SessionUse) (layout : Layout) (call : Call) (result : Result X SessionFault) : Type 0 where
  pub moves : Moves call
  pub read : IfOk result (λ session. Reaches call (λ bytes rest. IsSessionLaid usage layout bytes (view session) rest))
  pub accepted : IfSome call.told (λ bytes. (s : SessionOf) (rest : List ℕ) → IsSessionLaid usage layout bytes s rest → IsReadAs view call s rest result)
  pub refused : IfErr result (HasLaidCause usage layout call)
  pub too_long : result ≡ Err (Input TooLong) → IsAt (most_bytes layout) call
  pub exact : IfSome call.told (λ bytes. (fault : InputFault) → HasLaidFault usage layout bytes fault → IsRefusedFor call fault result)

-- the same of a raster in tiles of a side
abbrev pub IsSessionOutcome : SessionUse → ℕ → Call → Result Session SessionFault → Type 0
IsSessionOutcome usage side call result = IsLaidOutcome session_of usage (in_tiles side) call result

-- and of a raster without tiles
abbrev pub IsWholeOutcome : SessionUse → Call → Result WholeSession SessionFault → Type 0
IsWholeOutcome usage call result = IsLaidOutcome whole_session_of usage as_whole call result
