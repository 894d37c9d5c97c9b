use Rattle.displacement.specs.Steps.{AreBlockValues}
use Rattle.displacement.proofs.displacing.block_values.Given as goal
use Rattle.grid_writer.specs.Grids.{grid_of}
use Rattle.std.proofs.Common.{◌≡◌, ◌*◌, vec_len}

abbrev pub invariant-loop-place : goal.invariant-loop-place
invariant-loop-place l = record {
  full : vec_len l.values ≡ l.width * l.height;
  done : AreBlockValues l.sight (grid_of l.grid) l.width l.place l.values.items;
}
