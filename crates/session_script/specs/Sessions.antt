-- A session as bytes: the planes of phase, weights and mask, and the script part.
use Rattle.std.specs.Prelude.{◌≡◌, ◌⊎◌, ℕ, ◌+◌, ◌-◌, ◌*◌, ◌/◌, ◌≤◌, ◌<◌, ◌==◌, not, Bool, false, IsTrue, List, [], length, take, replicate, slice_index}
use Rattle.edge_weights.specs.declared.whole.WholeSession.{WholeSession}
use Rattle.raster_model.specs.declared.session.Session.{Session}
use Rattle.raster_model.specs.MaskView.{MaskView}
use Rattle.raster_model.specs.Masks.{IsMaskOf, open_at}
use Rattle.raster_model.specs.Sums.{Field}
use Rattle.pgm_planes.specs.declared.extent.Extent.{Extent}
use Rattle.pgm_planes.specs.declared.extent.Extent.TheVariants.{Tiled}
use Rattle.pgm_planes.specs.declared.fault.InputFault.{InputFault}
use Rattle.pgm_planes.specs.declared.fault.InputFault.TheVariants as faults
use Rattle.pgm_planes.specs.declared.fault.PlaneFault.{PlaneFault}
use Rattle.pgm_planes.specs.declared.fault.Role.{Role}
use Rattle.pgm_planes.specs.declared.fault.Role.TheVariants.{Phase, Weight, Mask}
use Rattle.pgm_planes.specs.Asking.{SoughtAsks}
use Rattle.pgm_planes.specs.Breaks.{SoughtBreak}
use Rattle.pgm_planes.specs.Gaps.{begins}
use Rattle.pgm_planes.specs.Planes.{PlaneOf, IsSoughtIn, Sought, plane_of, sought_within}
use Rattle.session_script.specs.declared.session_use.SessionUse.{SessionUse}
use Rattle.session_script.specs.declared.session_use.SessionUse.TheVariants.{Alone}
use Rattle.session_script.specs.Layouts.{Layout, as_whole, extent_of, in_tiles, most_bytes}
use Rattle.session_script.specs.Sections.{Sections, Frame, sections_of, whole_frame}
use Rattle.session_script.specs.Scripts.{IsScriptPart, ScriptBreak}

-- what a session's text tells: side and rule are given apart
pub record SessionOf : Type 0 where
  pub phase : PlaneOf
  pub weights : PlaneOf
  pub mask : MaskView
  pub scripts : Sections

abbrev pub session_of : Session → SessionOf
session_of session = record { phase = plane_of session.scene.phase; weights = plane_of session.scene.weights; mask = session.first_mask; scripts = sections_of session.scripts.items }

abbrev pub whole_session_of : WholeSession → SessionOf
whole_session_of session = record { phase = plane_of session.scene.phase; weights = plane_of session.scene.weights; mask = session.first_mask; scripts = sections_of session.scripts.items }

-- two sessions tell the same: their planes and scripts are equal, and the same pixels are open
pub record IsSameSession (s t : SessionOf) : Type 0 where
  pub phase : s.phase ≡ t.phase
  pub weights : s.weights ≡ t.weights
  pub mask : IsMaskOf s.mask t.phase.width t.phase.height (open_at t.mask)
  pub scripts : s.scripts ≡ t.scripts

-- a plane of another's size whose samples are all 1: the weights, and the mask, where there is none
abbrev pub ones_of : PlaneOf → PlaneOf
ones_of plane = record { width = plane.width; height = plane.height; maxval = 1; samples = replicate (plane.width * plane.height) 1 }

abbrev pub HasPlaneSize : PlaneOf → PlaneOf → Type 0
HasPlaneSize p q = (q.width ≡ p.width) × (q.height ≡ p.height)

-- P (80) begins a plane
abbrev pub is_p : ℕ → Bool
is_p b = b == 80

-- where the next byte is P, a plane of the phase plane's size stands; otherwise the plane is that of ones
abbrev pub IsLaterSought : Sought → PlaneOf → List ℕ → PlaneOf → List ℕ → Type 0
IsLaterSought sought phase bytes p rest = (IsSoughtIn sought bytes p rest × HasPlaneSize phase p) ⊎ ((begins is_p bytes ≡ false) × (p ≡ ones_of phase) × (rest ≡ bytes))

-- the same of a raster that may have tiles
abbrev pub IsLaterPlane : Role → PlaneOf → List ℕ → PlaneOf → List ℕ → Type 0
IsLaterPlane role phase bytes p rest = IsLaterSought (sought_within Tiled role) phase bytes p rest

-- the phase plane, the weights if any and the mask if any, and then `rest`
pub record ArePlanes (extent : Extent) (bytes : List ℕ) (phase weights mask : PlaneOf) (rest : List ℕ) : Type 0 where
  pub behind_phase : List ℕ
  pub behind_weights : List ℕ
  pub first : IsSoughtIn (sought_within extent Phase) bytes phase behind_phase
  pub second : IsLaterSought (sought_within extent Weight) phase behind_phase weights behind_weights
  pub third : IsLaterSought (sought_within extent Mask) phase behind_weights mask rest

-- how many tiles of this side lie along so many pixels
abbrev pub tiles_in_length : ℕ → ℕ → ℕ
tiles_in_length side pixels = (pixels + side - 1) / side

-- the raster of a phase plane in tiles of this side, all of whose pixels a settle command settles, and all of whose tiles a
-- change command may change
abbrev pub frame_in : ℕ → PlaneOf → Frame
frame_in side phase = record { width = phase.width; height = phase.height; settled = phase.width * phase.height; changed = tiles_in_length side phase.height * tiles_in_length side phase.width }

-- the raster of a phase plane as it is laid
abbrev pub frame_laid : Layout → PlaneOf → Frame
frame_laid (in_tiles side) phase = frame_in side phase
frame_laid as_whole phase = whole_frame phase.width phase.height

-- a pixel is open where the mask plane's sample is not 0
abbrev pub mask_open_in : PlaneOf → Field Bool
mask_open_in plane x y = not (slice_index plane.samples (y * plane.width + x) == 0)

-- the bytes are a session's text, of at most so many bytes as the layout allows, and then `rest`
pub record IsSessionLaid (usage : SessionUse) (layout : Layout) (bytes : List ℕ) (session : SessionOf) (rest : List ℕ) : Type 0 where
  pub mask_plane : PlaneOf
  pub between : List ℕ
  pub planes : ArePlanes (extent_of layout) bytes session.phase session.weights mask_plane between
  pub mask : IsMaskOf session.mask session.phase.width session.phase.height (mask_open_in mask_plane)
  pub script : IsScriptPart (frame_laid layout session.phase) usage between session.scripts rest
  pub short : length bytes ≤ most_bytes layout + length rest

-- ---- breaks; places count from the start, where the first of the bytes has the place `at`

abbrev pub PlaneBreak : Sought → ℕ → List ℕ → InputFault → Type 0
PlaneBreak sought at bytes fault = (found : PlaneFault) × (fault ≡ faults.Plane sought.role found) × SoughtBreak sought at bytes found

-- a later plane begins, and breaks its form or has another size than the phase plane
abbrev pub HasOtherPlaneSize : Sought → PlaneOf → List ℕ → Type 0
HasOtherPlaneSize sought phase bytes = (plane : PlaneOf) × (rest : List ℕ) × IsSoughtIn sought bytes plane rest × (HasPlaneSize phase plane → ⊥)

abbrev pub LaterBreak : Sought → PlaneOf → ℕ → List ℕ → InputFault → Type 0
LaterBreak sought phase at bytes fault = IsTrue (begins is_p bytes) × (PlaneBreak sought at bytes fault ⊎ ((fault ≡ faults.SizesDiffer sought.role) × HasOtherPlaneSize sought phase bytes))

-- a plane of this role may begin at `rest`, after a phase plane and, for a mask, the weights if any
abbrev pub StandsBefore : Extent → Role → List ℕ → PlaneOf → List ℕ → Type 0
StandsBefore extent Phase bytes phase rest = ⊥
StandsBefore extent Weight bytes phase rest = IsSoughtIn (sought_within extent Phase) bytes phase rest
StandsBefore extent Mask bytes phase rest = (weights : PlaneOf) × (between : List ℕ) × IsSoughtIn (sought_within extent Phase) bytes phase between × IsLaterSought (sought_within extent Weight) phase between weights rest

pub record BreaksInLater (extent : Extent) (at : ℕ) (bytes : List ℕ) (fault : InputFault) : Type 0 where
  pub role : Role
  pub phase : PlaneOf
  pub rest : List ℕ
  pub place : ℕ
  pub before : StandsBefore extent role bytes phase rest
  pub place_is : place + length rest ≡ at + length bytes
  pub broken : LaterBreak (sought_within extent role) phase place rest fault

abbrev pub PlanesBreak : Extent → ℕ → List ℕ → InputFault → Type 0
PlanesBreak extent at bytes fault = PlaneBreak (sought_within extent Phase) at bytes fault ⊎ BreaksInLater extent at bytes fault

pub record BreaksInScript (usage : SessionUse) (layout : Layout) (at : ℕ) (bytes : List ℕ) (fault : InputFault) : Type 0 where
  pub phase : PlaneOf
  pub weights : PlaneOf
  pub mask : PlaneOf
  pub rest : List ℕ
  pub place : ℕ
  pub before : ArePlanes (extent_of layout) bytes phase weights mask rest
  pub place_is : place + length rest ≡ at + length bytes
  pub broken : ScriptBreak (frame_laid layout phase) usage place rest fault

abbrev pub LaidBreak : SessionUse → Layout → ℕ → List ℕ → InputFault → Type 0
LaidBreak usage layout at bytes fault = PlanesBreak (extent_of layout) at bytes fault ⊎ BreaksInScript usage layout at bytes fault

-- ---- bytes that are judged at their end: a reader of them asks for a byte after the last one

-- a plane asks for more: the phase plane, or a later one that begins
abbrev pub PlaneAsks : Extent → List ℕ → Type 0
PlaneAsks extent bytes = SoughtAsks (sought_within extent Phase) bytes ⊎ ((role : Role) × (phase : PlaneOf) × (rest : List ℕ) × StandsBefore extent role bytes phase rest × IsTrue (begins is_p rest) × SoughtAsks (sought_within extent role) rest)

-- the bytes are a session that stands alone, they end before the LF of `end`, or a plane asks for more
abbrev pub LaidAsks : SessionUse → Layout → List ℕ → Type 0
LaidAsks usage layout bytes = ((usage ≡ Alone) × (session : SessionOf) × IsSessionLaid Alone layout bytes session []) ⊎ (LaidBreak usage layout 0 bytes faults.NoEnd ⊎ PlaneAsks (extent_of layout) bytes)

-- more bytes are there than a session may have, and those that it may have ask for more
abbrev pub AreTooManyLaid : SessionUse → Layout → List ℕ → Type 0
AreTooManyLaid usage layout bytes = (most_bytes layout < length bytes) × LaidAsks usage layout (take (most_bytes layout) bytes)

-- the bytes have this fault as a session: they are too many, or it is their first break
abbrev pub HasLaidFault : SessionUse → Layout → List ℕ → InputFault → Type 0
HasLaidFault usage layout bytes fault = (AreTooManyLaid usage layout bytes × (fault ≡ faults.TooLong)) ⊎ ((AreTooManyLaid usage layout bytes → ⊥) × LaidBreak usage layout 0 bytes fault)

-- ---- the same of a raster in tiles of a side

-- the bytes are a session's text, of at most 268,435,456 bytes, and then `rest`
abbrev pub IsSessionIn : SessionUse → ℕ → List ℕ → SessionOf → List ℕ → Type 0
IsSessionIn usage side bytes session rest = IsSessionLaid usage (in_tiles side) bytes session rest

abbrev pub SessionBreak : SessionUse → ℕ → ℕ → List ℕ → InputFault → Type 0
SessionBreak usage side at bytes fault = LaidBreak usage (in_tiles side) at bytes fault

abbrev pub SessionAsks : SessionUse → ℕ → List ℕ → Type 0
SessionAsks usage side bytes = LaidAsks usage (in_tiles side) bytes

abbrev pub AreTooMany : SessionUse → ℕ → List ℕ → Type 0
AreTooMany usage side bytes = AreTooManyLaid usage (in_tiles side) bytes

abbrev pub HasFault : SessionUse → ℕ → List ℕ → InputFault → Type 0
HasFault usage side bytes fault = HasLaidFault usage (in_tiles side) bytes fault

-- ---- and of a raster without tiles

-- the bytes are a session's text, of at most 4,294,967,296 bytes, and then `rest`
abbrev pub IsWholeSessionIn : SessionUse → List ℕ → SessionOf → List ℕ → Type 0
IsWholeSessionIn usage bytes session rest = IsSessionLaid usage as_whole bytes session rest

abbrev pub HasWholeFault : SessionUse → List ℕ → InputFault → Type 0
HasWholeFault usage bytes fault = HasLaidFault usage as_whole bytes fault
