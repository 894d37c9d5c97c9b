use Rattle.displacement.specs.Steps.{IsListTotal}
use Rattle.displacement.proofs.blocks.piece_total.Given as goal

abbrev pub invariant-loop-value : goal.invariant-loop-value
invariant-loop-value l = IsListTotal l.values l.value-index l.total.count l.total.sum
