use Rattle.std.proofs.Common.{◌≡◌, ◌-◌, ◌≤◌, length}
use Rattle.surface_snapshots.specs.Parts.{BeginsWithRow}
use Rattle.surface_snapshots.specs.Shifted.{level_at}
use Rattle.surface_snapshots.proofs.shifted.ShiftedTiles.fill_row.Given as goal

abbrev pub invariant-loop-x : goal.invariant-loop-x
invariant-loop-x l = record {
  within : l.x ≤ l.self.scene.now.phase.width;
  size : length l.row ≡ length l.fn.row;
  front : BeginsWithRow (level_at l.self) l.y l.x l.row;
}

abbrev pub decreases-loop-x : goal.decreases-loop-x
decreases-loop-x l = l.self.scene.now.phase.width - l.x
