-- Why a plane is not read.
use Rattle.std.specs.Prelude.{◌≡◌, ℕ, List, Some, IfSome, Result, Ok, Err, ⊤}
use Rattle.insar_ports.specs.Bytes.{HasMore, HasRisen}
use Rattle.pgm_planes.specs.declared.extent.Extent.TheVariants.{Tiled}
use Rattle.pgm_planes.specs.declared.fault.Role.{Role}
use Rattle.pgm_planes.specs.declared.fault.ReadPlaneFault.{ReadPlaneFault}
use Rattle.pgm_planes.specs.declared.fault.ReadPlaneFault.TheVariants as errors
use Rattle.raster_model.specs.declared.plane.Plane.{Plane}
use Rattle.pgm_planes.specs.Planes.{Sought, sought_within, PlaneOf, plane_of}
use Rattle.pgm_planes.specs.Breaks.{SoughtBreak}
use Rattle.pgm_planes.specs.Asking.{SoughtAsks}
use Rattle.insar_ports.specs.Calls.{Call, IsCutOff}

-- Where the bytes are told, they have this first break; or the limit was handed out and another byte is there, which was
-- asked for; or a fault of the source was counted; or memory ran out, which has no cause.
abbrev pub HasSoughtCause : Sought → Call → ReadPlaneFault → Type 0
HasSoughtCause sought call (errors.Plane fault) = IfSome call.told (λ bytes. SoughtBreak sought call.at bytes fault)
HasSoughtCause sought call errors.TooLong = (call.end ≡ call.limit) × HasMore call.left × IfSome call.told (IsCutOff (SoughtAsks sought) call)
HasSoughtCause sought call errors.ReadFault = HasRisen call.before call.after
HasSoughtCause sought call errors.Memory = ⊤

-- the same of a raster that may have tiles
abbrev pub HasPlaneCause : Role → Call → ReadPlaneFault → Type 0
HasPlaneCause role call fault = HasSoughtCause (sought_within Tiled role) call fault

-- Bytes that begin with the plane p are read as it, and `rest` is left; or a read failed, the limit cut them or memory
-- ran out.
abbrev pub IsReadAsPlane : Call → PlaneOf → List ℕ → Result Plane ReadPlaneFault → Type 0
IsReadAsPlane call p rest (Ok plane) = (plane_of plane ≡ p) × (call.left ≡ Some rest)
IsReadAsPlane call plane rest (Err (errors.Plane fault)) = ⊥
IsReadAsPlane call plane rest (Err errors.TooLong) = ⊤
IsReadAsPlane call plane rest (Err errors.ReadFault) = ⊤
IsReadAsPlane call plane rest (Err errors.Memory) = ⊤

-- Bytes that are cut off are told to be too long; or a read failed or memory ran out.
abbrev pub IsCutShort : Call → Result Plane ReadPlaneFault → Type 0
IsCutShort call (Ok plane) = ⊥
IsCutShort call (Err (errors.Plane fault)) = ⊥
IsCutShort call (Err errors.TooLong) = ⊤
IsCutShort call (Err errors.ReadFault) = HasRisen call.before call.after
IsCutShort call (Err errors.Memory) = ⊤
