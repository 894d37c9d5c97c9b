-- The surface that values show has them where they fit.
use Rattle.std.proofs.Common.{◌≡◌, ◌∙◌, ℕ, ◌+◌, ◌*◌, sym, ap, arith}
use Rattle.std.specs.Prelude.{ℤ, pos, ◌+ℤ◌, ◌*ℤ◌}
use Rattle.raster_model.specs.declared.scene.Scene.{Scene}
use Rattle.raster_model.specs.declared.sheet.Sheet.{Sheet}
use Rattle.raster_model.specs.Raster.{Raster, lifted}
use Rattle.raster_model.specs.Scene.{raster_of}
use Rattle.raster_model.specs.Sheets.{sheet_raster}
use Rattle.raster_model.specs.Sums.{Field}
use Rattle.grid_writer.specs.Fits.{HasPhases, cycles_shown}
use Rattle.grid_writer.proofs.FitValues.{whole_cycles}

-- phases are less than a cycle
pub has_phases : (s : Scene) → HasPhases (raster_of s)
has_phases s x y = omega (arith, s.phase.below (y * s.phase.width + x), s.cycle)

pub sheet_phases : (s : Sheet) → HasPhases (sheet_raster s)
sheet_phases s x y = omega (arith, s.phase.now.below (y * s.phase.now.width + x), s.cycle)

-- a value so many cycles above the phase is that of the surface
pub shows_cycles : (r : Raster) → HasPhases r → (values : Field ℤ) (x y : ℕ) (c : ℤ) → values x y ≡ pos (r.phase x y) +ℤ pos 65536 *ℤ c → values x y ≡ lifted r (cycles_shown values) x y
shows_cycles r phases values x y c e = e ∙ ap (λ (z : ℤ). pos (r.phase x y) +ℤ pos 65536 *ℤ z) (sym (whole_cycles (values x y) (r.phase x y) c (phases x y) e))
