-- What `nearest` reads, which is a session and then a grid, and what it writes: the surface of the session's phase that is nearest to the grid.
use Rattle.std.specs.Prelude.{◌≡◌, ◌-◌, ◌*◌, ◌+◌, ◌<◌, ℕ, List, length, slice_index}
use Rattle.grid_writer.specs.Grids.{GridOf, IsGrid, text_of_grid}
use Rattle.grid_writer.specs.ManyGrids.{HasSize}
use Rattle.nearest_surface.specs.declared.fault.NearestFault.{NearestFault}
use Rattle.nearest_surface.specs.declared.fault.NearestFault.TheVariants as faults
use Rattle.nearest_surface.specs.Nearest.{HasCause, IsComplete, IsNearestSurface, IsWide, MaskedPhase}
use Rattle.raster_model.specs.Masks.{open_at}
use Rattle.session_script.specs.declared.session_use.SessionUse.TheVariants.{BeforeReport}
use Rattle.session_script.specs.Sessions.{HasFault, IsSessionIn, SessionOf}
use Rattle.insar_commands.specs.Both.{AfterSession}
use Rattle.insar_commands.specs.Displacement.{IsOneGrid}
use Rattle.insar_commands.specs.Grids.{BreaksManyAt}
use Rattle.answer_lines.specs.declared.refusal.Refusal.{Refusal}
use Rattle.answer_lines.specs.declared.refusal.Refusal.TheVariants as refusals

-- the side of tiles by which the edits of a session are limited
abbrev pub nearest_side : ℕ
nearest_side = 64

-- the phase of a session under its first mask
abbrev pub phase_told : SessionOf → MaskedPhase
phase_told s = record { width = s.phase.width; height = s.phase.height; phase = λ x y. slice_index s.phase.samples (y * s.phase.width + x); mask = open_at s.mask }

-- the bytes are the text of this session and then of this grid
abbrev pub AreSessionAndGrid : List ℕ → SessionOf → GridOf → Type 0
AreSessionAndGrid bytes s grid = (rest : List ℕ) × (IsSessionIn BeforeReport nearest_side bytes s rest × IsOneGrid rest grid)

-- the bytes are the text of a session and then of a grid of its size, which has a value at each open pixel, and to which no nearest value is too wide to be written
pub record IsNearestInput (bytes : List ℕ) : Type 0 where
  pub session : SessionOf
  pub given : GridOf
  pub both : AreSessionAndGrid bytes session given
  pub alike : HasSize session.phase.width session.phase.height given
  pub complete : IsComplete (phase_told session) given.values
  pub narrow : (x y : ℕ) → x < session.phase.width → y < session.phase.height → IsWide (phase_told session) given.values x y → ⊥

-- the bytes are the text of a session and then of a grid to which there is no nearest surface for this cause
abbrev pub HasNearestFault : List ℕ → NearestFault → Type 0
HasNearestFault bytes fault = (s : SessionOf) × (grid : GridOf) × (AreSessionAndGrid bytes s grid × HasCause (phase_told s) grid fault)

-- the break of the bytes for which there is no nearest surface: a fault of the session, the first break of the grid after it, or the cause for which there is none
abbrev pub BreaksNearest : List ℕ → Refusal → Type 0
BreaksNearest bytes (refusals.Input fault) = HasFault BeforeReport nearest_side bytes fault
BreaksNearest bytes (refusals.GridSizes grid) = (grid ≡ 1) × HasNearestFault bytes faults.Sizes
BreaksNearest bytes (refusals.Missing x y) = HasNearestFault bytes (faults.Missing x y)
BreaksNearest bytes (refusals.Wide x y) = HasNearestFault bytes (faults.Wide x y)
BreaksNearest bytes refusal = AfterSession nearest_side bytes (λ rest. BreaksManyAt 1 (length bytes - length rest) rest refusal)

-- a grid is the nearest surface to the grid that the bytes spell after a session
abbrev pub HasNearest : List ℕ → GridOf → Type 0
HasNearest bytes output = (s : SessionOf) × (grid : GridOf) × (AreSessionAndGrid bytes s grid × IsNearestSurface (phase_told s) grid output)

-- the text is that of such a grid, each value of which fits 64 bits
pub record IsNearestAnswer (bytes text : List ℕ) : Type 0 where
  pub output : GridOf
  pub nearest : HasNearest bytes output
  pub in_range : IsGrid output
  pub written : text ≡ text_of_grid output
