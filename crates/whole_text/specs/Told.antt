-- What the whole is unwrapped of, and what the text of a surface that lies whole cycles above the phase tells.
use Rattle.raster_model.specs.declared.limits.TheConstants.{MAX_WHOLE_CYCLES}
use Rattle.std.specs.Prelude.{◌*◌, ℕ, ◌<◌, ℤ, Bool, IsTrue, if◌then◌else◌, List, unsigned_abs}
use Rattle.raster_model.specs.declared.sheet.Sheet.{Sheet}
use Rattle.raster_model.specs.declared.weights.RuleKind.{RuleKind}
use Rattle.raster_model.specs.Limits.{IsSteepness}
use Rattle.raster_model.specs.Masks.{open_at}
use Rattle.raster_model.specs.MaskView.{MaskView}
use Rattle.raster_model.specs.Raster.{Raster, lifted}
use Rattle.raster_model.specs.Sheets.{sheet_raster}
use Rattle.raster_model.specs.Sums.{Field}
use Rattle.grid_writer.specs.Fits.{HasPhases}
use Rattle.grid_writer.specs.Values.{no_data}
use Rattle.text_parts.specs.Terms.{TermsOf, terms_of}
use Rattle.whole_text.specs.Text.{WholeOf}

-- a raster as one tile, with the rule of its weights, its terms and its open pixels
pub record WholeTask : Type 0 where
  pub raster : Raster
  pub rule : RuleKind
  pub terms : TermsOf
  pub mask : Field Bool

-- that of a sheet and a mask
abbrev pub task_of : Sheet → MaskView → WholeTask
task_of sheet mask = record { raster = sheet_raster sheet; rule = sheet.rule; terms = terms_of sheet.terms; mask = open_at mask }

-- what holds of each of these: phases are less than a cycle, and the steepness is within its limits
pub record IsWholeTask (task : WholeTask) : Type 0 where
  pub phases : HasPhases task.raster
  pub steepness : IsSteepness task.raster.steep

-- an open pixel has the surface's value, a masked one the NODATA value
abbrev pub value_above : Raster → Field Bool → Field ℤ → Field ℤ
value_above raster mask cycles x y = if mask x y then lifted raster cycles x y else no_data

-- so few cycles at each open pixel that the value fits 64 bits and is not the NODATA value
abbrev pub AreFewCycles : Raster → Field Bool → Field ℤ → Type 0
AreFewCycles raster mask cycles = (x y : ℕ) → x < raster.width → y < raster.height → IsTrue (mask x y) → unsigned_abs (cycles x y) < 2 * MAX_WHOLE_CYCLES

-- what is told of a surface with these faces and this cost
abbrev pub told_whole : WholeTask → Field ℤ → List ℤ → ℕ → WholeOf
told_whole task cycles faces cost = record { width = task.raster.width; height = task.raster.height; rule = task.rule; terms = task.terms; cost = cost; values = value_above task.raster task.mask cycles; faces = faces }
