use Rattle.report_check.specs.Shown.{open_shown, raster_shown, told_shown}
use Rattle.report_check.specs.Verdicts.{TilesAreCertified}
use Rattle.report_check.proofs.shown.ShownSurface.first_unfit_tile.Given as goal

abbrev pub invariant-loop-tile : goal.invariant-loop-tile
invariant-loop-tile l = TilesAreCertified (raster_shown l.self) (open_shown l.self) (told_shown l.self) l.tile
