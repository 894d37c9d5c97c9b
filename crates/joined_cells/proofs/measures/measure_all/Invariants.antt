use Rattle.joined_cells.proofs.MeasureLemmas.{AreMeasured}
use Rattle.joined_cells.proofs.measures.measure_all.Given as goal

abbrev pub invariant-loop-place : goal.invariant-loop-place
invariant-loop-place l = AreMeasured l.labels l.place l.sizes l.firsts
