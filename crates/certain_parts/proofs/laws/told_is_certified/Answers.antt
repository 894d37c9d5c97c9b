use Rattle.grid_writer.specs.Fits.{cycles_shown}
use Rattle.certain_parts.proofs.MarginLemmas.{certified_by}
use Rattle.certain_parts.proofs.laws.told_is_certified.Goals as goal

pub returns : goal.returns
returns c = λ task is told text. (certified_by task.raster task.mask (cycles_shown told.values) told.faces text.certified.certified, is.steepness.0)
