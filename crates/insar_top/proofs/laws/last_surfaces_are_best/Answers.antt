use Rattle.insar_commands.proofs.LastSurface.{last_surfaces_are_best}
use Rattle.insar_top.proofs.laws.last_surfaces_are_best.Goals as goal

pub returns : goal.returns
returns c = last_surfaces_are_best
