use Rattle.std.proofs.Common.{◌≡◌, ◌*◌, length}
use Rattle.surface_snapshots.specs.Shifted.{AreLevelsFrom}
use Rattle.surface_snapshots.proofs.shifted.ShiftedTiles.fill_strip.Given as goal

abbrev pub invariant-loop-row : goal.invariant-loop-row
invariant-loop-row l = record {
  size : length l.part ≡ length l.fn.part;
  filled : AreLevelsFrom l.self l.start (l.row * l.self.scene.now.phase.width) l.part;
}
