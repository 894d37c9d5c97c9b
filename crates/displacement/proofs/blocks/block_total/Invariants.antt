use Rattle.displacement.proofs.BlockLemmas.{IsRowsTotal}
use Rattle.displacement.proofs.blocks.block_total.Given as goal
use Rattle.grid_writer.specs.Grids.{grid_of}

abbrev pub invariant-loop-v : goal.invariant-loop-v
invariant-loop-v l = IsRowsTotal (grid_of l.grid) l.block l.column l.row l.v l.total.count l.total.sum
