-- What is read of a value over a phase.
use Rattle.std.proofs.Common.{◌≡◌, ◌≢◌, ◌∙◌, ℕ, sym, Bool}
use Rattle.std.specs.Prelude.{ℤ, pos, ◌+ℤ◌, ◌*ℤ◌, ◌↔◌, IsTrue}
use Rattle.raster_model.specs.Raster.{Raster}
use Rattle.raster_model.specs.Sums.{Field}
use Rattle.grid_writer.specs.Values.{no_data}
use Rattle.grid_writer.specs.Fits.{ValueFits}
use Rattle.sums_and_lists.proofs.Tests.{true_and_false}

-- an open pixel's value fits where it is told and lies whole cycles above the phase
pub fits_open : (r : Raster) (mask : Field Bool) (values : Field ℤ) (x y : ℕ) (z : ℤ) (b : Bool) → z ≡ values x y → IsTrue (mask x y) → z ≢ no_data → IsTrue b ↔ ((c : ℤ) × (z ≡ pos (r.phase x y) +ℤ pos 65536 *ℤ c)) → IsTrue b ↔ ValueFits r mask values x y
fits_open r mask values x y z b e o told test = (
  λ t. record {
    masked = λ f. absurd (true_and_false (mask x y) o f);
    unmasked = λ _. (let c = test.0 t in record { told = λ n. told (e ∙ n); cycles = c.0; whole = sym e ∙ c.1 });
  },
  λ f. (let g = f.unmasked o in test.1 (g.cycles, e ∙ g.whole)),
)
