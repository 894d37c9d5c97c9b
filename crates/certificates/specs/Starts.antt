-- Pixels at which no seam edge starts.
use Rattle.std.specs.Prelude.{◌≡◌, ℕ, ◌<◌, ◌≤◌, false}
use Rattle.raster_model.specs.declared.edge.Edge.{Edge}
use Rattle.raster_model.specs.Raster.{Raster}
use Rattle.raster_model.specs.Flows.{is_seam_edge}

-- in the columns from a below b no seam edge starts in row y
abbrev pub HasNoSeams : Raster → ℕ → ℕ → ℕ → Type 0
HasNoSeams raster a b y = (edge : Edge) → edge.y ≡ y → a ≤ edge.x → edge.x < b → is_seam_edge raster edge ≡ false
