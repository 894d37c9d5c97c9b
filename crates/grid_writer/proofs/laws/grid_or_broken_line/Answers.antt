use Rattle.text_lines.proofs.BreakLemmas.{one_broken_line}
use Rattle.grid_writer.specs.Grids.{IsGridText}
use Rattle.grid_writer.proofs.TellLemmas.{grid_or_break}
use Rattle.grid_writer.proofs.laws.grid_or_broken_line.Goals as goal

pub returns-clause-either : goal.returns-clause-either
returns-clause-either c = grid_or_break

pub returns-clause-one : goal.returns-clause-one
returns-clause-one c = one_broken_line IsGridText
