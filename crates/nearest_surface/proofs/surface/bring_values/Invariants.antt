use Rattle.nearest_surface.specs.Nearest.{masked_phase}
use Rattle.nearest_surface.proofs.PlaceLemmas.{AreBrought}
use Rattle.nearest_surface.proofs.surface.bring_values.Given as goal

abbrev pub invariant-loop-place : goal.invariant-loop-place
invariant-loop-place l = AreBrought (masked_phase l.phase l.mask) l.initial.values l.place l.values
