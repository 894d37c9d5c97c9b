use Rattle.std.proofs.Common.{◌≡◌, ℕ, length, Some}
use Rattle.std.specs.Prelude.{map, slice_get}
use Rattle.std.specs.Arc.{arc_value}
use Rattle.surface_snapshots.specs.declared.runs.TileRuns.{TileRuns}
use Rattle.surface_snapshots.specs.Packing.{TellTiles}
use Rattle.surface_snapshots.specs.Runs.{AreRising, runs_of}
use Rattle.surface_snapshots.proofs.tiled.TiledRegions.of.Given as goal

abbrev pub invariant-loop-tile : goal.invariant-loop-tile
invariant-loop-tile l = record {
  size : length l.tiles.items ≡ l.tile;
  told : TellTiles l.tiling l.regions.labels l.packing.labels.items (map runs_of l.tiles.items) l.tile;
  rising : (t : ℕ) (k : TileRuns) → slice_get l.tiles.items t ≡ Some k → AreRising (arc_value k.runs).items;
}
