-- What is certified is so whoever wrote it: it depends on what the text tells.
use Rattle.std.specs.Prelude.{◌≡◌, ℕ, ℤ, pos, List}
use Rattle.raster_model.specs.Raster.{lifted}
use Rattle.raster_model.specs.Seams.{IsAnchored}
use Rattle.raster_model.specs.Sums.{Field}
use Rattle.raster_model.specs.Whole.{IsCertifiedWhole, whole_cost}
use Rattle.whole_text.specs.Reading.{IsSameWhole}
use Rattle.whole_text.specs.Text.{WholeOf}
use Rattle.whole_text.specs.Told.{AreFewCycles, IsWholeTask, WholeTask, told_whole}
use Rattle.whole_check.specs.Verdicts.{IsCertifiedText}

-- where a text is certified, each text that tells the same is
abbrev pub AcceptanceIsOfWholes : Type 0
AcceptanceIsOfWholes = (task : WholeTask) (v w : WholeOf) → IsSameWhole v w → IsCertifiedText task v → IsCertifiedText task w

-- a surface of whole cycles above the phase that is anchored and certified, with its cost
pub record IsSolvedWhole (task : WholeTask) (cycles : Field ℤ) (faces : List ℤ) (cost : ℕ) : Type 0 where
  pub few : AreFewCycles task.raster task.mask cycles
  pub anchored : IsAnchored task.raster task.mask (lifted task.raster cycles)
  pub certified : IsCertifiedWhole task.raster task.mask (lifted task.raster cycles) faces
  pub cost_is : pos cost ≡ whole_cost task.raster task.mask (lifted task.raster cycles)

-- what is told of it is certified
abbrev pub CertifiedWholesAreAccepted : Type 0
CertifiedWholesAreAccepted = (task : WholeTask) → IsWholeTask task → (cycles : Field ℤ) (faces : List ℤ) (cost : ℕ) → IsSolvedWhole task cycles faces cost → IsCertifiedText task (told_whole task cycles faces cost)
