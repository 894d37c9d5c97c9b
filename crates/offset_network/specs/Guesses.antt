-- What the check makes of a guess. No public clause cites this file.
use Rattle.std.specs.Prelude.{◌≡◌, ℕ}
use Rattle.raster_model.specs.declared.scene.Scene.{Scene}
use Rattle.raster_model.specs.MaskView.{MaskView}
use Rattle.certificates.specs.TileSets.{TileSetView}
use Rattle.seam_regions.specs.RegionsView.{RegionsView}
use Rattle.offset_network.specs.Surfaces.{IsGoodSeams}
use Rattle.offset_network.specs.declared.guessing.Judged.{Judged}
use Rattle.offset_network.specs.declared.guessing.Judged.TheVariants.{Certified, Dropped}

-- a guess that is certified is a good result with the revision, and nothing is said of any other
abbrev pub IsJudgedGuess : Scene → MaskView → RegionsView → TileSetView → ℕ → Judged → Type 0
IsJudgedGuess scene mask regions tiles revision (Certified solved) = (solved.revision ≡ revision) × IsGoodSeams scene mask regions tiles solved
IsJudgedGuess scene mask regions tiles revision (Dropped offsets) = Unit {0}
