-- Why a session is not read.
use Rattle.std.specs.Prelude.{◌≡◌, ℕ, List, Some, IfSome, Result, Ok, Err, ⊤}
use Rattle.insar_ports.specs.Bytes.{HasMore, HasRisen}
use Rattle.raster_model.specs.declared.session.Session.{Session}
use Rattle.pgm_planes.specs.declared.fault.InputFault.{InputFault}
use Rattle.insar_ports.specs.Calls.{Call}
use Rattle.session_script.specs.declared.fault.SessionFault.{SessionFault}
use Rattle.session_script.specs.declared.fault.SessionFault.TheVariants.{Input, ReadFault, Memory}
use Rattle.session_script.specs.declared.session_use.SessionUse.{SessionUse}
use Rattle.raster_model.specs.Limits.{max_session_bytes}
use Rattle.session_script.specs.Layouts.{Layout, as_whole, in_tiles}
use Rattle.session_script.specs.Sessions.{SessionOf, session_of, IsSameSession, HasLaidFault}

-- where the bytes are told, they have this fault; or a fault of the source was counted; or memory ran out, which has no cause
abbrev pub HasLaidCause : SessionUse → Layout → Call → SessionFault → Type 0
HasLaidCause usage layout call (Input fault) = IfSome call.told (λ bytes. HasLaidFault usage layout bytes fault)
HasLaidCause usage layout call ReadFault = HasRisen call.before call.after
HasLaidCause usage layout call Memory = ⊤

-- Bytes that are the text of the session s and then `rest` are read as what tells it, and `rest` is left; or a fault of the
-- source was counted, or memory ran out.
abbrev pub IsReadAs : {X : Type 0} → (X → SessionOf) → Call → SessionOf → List ℕ → Result X SessionFault → Type 0
IsReadAs view call s rest (Ok session) = IsSameSession (view session) s × (call.left ≡ Some rest)
IsReadAs view call session rest (Err (Input fault)) = ⊥
IsReadAs view call session rest (Err ReadFault) = HasRisen call.before call.after
IsReadAs view call session rest (Err Memory) = ⊤

-- Bytes that have this fault are refused with it; or one of the same happened.
abbrev pub IsRefusedFor : {X : Type 0} → Call → InputFault → Result X SessionFault → Type 0
IsRefusedFor call fault (Ok session) = ⊥
IsRefusedFor call fault (Err (Input other)) = other ≡ fault
IsRefusedFor call fault (Err ReadFault) = HasRisen call.before call.after
IsRefusedFor call fault (Err Memory) = ⊤

-- where the bytes are told, so many of them were handed out and another is there
abbrev pub IsAt : ℕ → Call → Type 0
IsAt limit call = IfSome call.told (λ bytes. (call.end ≡ limit) × HasMore call.left)

-- ---- the same of a raster in tiles of a side

abbrev pub HasSessionCause : SessionUse → ℕ → Call → SessionFault → Type 0
HasSessionCause usage side call fault = HasLaidCause usage (in_tiles side) call fault

abbrev pub IsReadAsSession : Call → SessionOf → List ℕ → Result Session SessionFault → Type 0
IsReadAsSession call s rest result = IsReadAs session_of call s rest result

-- where the bytes are told, 268,435,456 of them were handed out and another is there
abbrev pub IsAtLimit : Call → Type 0
IsAtLimit call = IsAt max_session_bytes call

-- ---- and of a raster without tiles

abbrev pub HasWholeCause : SessionUse → Call → SessionFault → Type 0
HasWholeCause usage call fault = HasLaidCause usage as_whole call fault
