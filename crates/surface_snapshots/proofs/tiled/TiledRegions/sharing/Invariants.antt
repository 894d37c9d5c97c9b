use Rattle.std.proofs.Common.{◌≡◌, length}
use Rattle.std.specs.Prelude.{map}
use Rattle.surface_snapshots.specs.Runs.{runs_of}
use Rattle.surface_snapshots.proofs.tiled.TiledRegions.sharing.Given as goal

abbrev pub invariant-loop-tile : goal.invariant-loop-tile
invariant-loop-tile l = record {
  size : length l.tiles.items ≡ length l.fn.self.tiles.items;
  same : map runs_of l.tiles.items ≡ map runs_of l.fn.self.tiles.items;
}
