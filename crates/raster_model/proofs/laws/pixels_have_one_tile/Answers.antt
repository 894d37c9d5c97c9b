use Rattle.raster_model.proofs.TileLemmas.{tiles_are_numbered, tiles_are_squares, pixels_have_one_window}
use Rattle.raster_model.proofs.laws.pixels_have_one_tile.Goals as goal

pub returns-clause-numbered : goal.returns-clause-numbered
returns-clause-numbered c = tiles_are_numbered

pub returns-clause-squares : goal.returns-clause-squares
returns-clause-squares c = tiles_are_squares

pub returns-clause-windows : goal.returns-clause-windows
returns-clause-windows c = pixels_have_one_window
