use Rattle.std.proofs.Common.{◌≡◌, length}
use Rattle.surface_snapshots.specs.Parts.{BeginsWithRow}
use Rattle.surface_snapshots.specs.Shifted.{level_at}
use Rattle.surface_snapshots.proofs.shifted.ShiftedTiles.fill_open.Given as goal

abbrev pub invariant-loop-column : goal.invariant-loop-column
invariant-loop-column l = record {
  size : length l.row ≡ length l.fn.row;
  front : BeginsWithRow (level_at l.self) l.y l.column l.row;
}
