use Rattle.std.proofs.Common.{◌+◌, ◌-◌, ◌<◌, ◌≤◌, length}
use Rattle.surface_snapshots.specs.Runs.{ArePacked, Extends}
use Rattle.surface_snapshots.proofs.packing.Packing.pack.Given as goal

abbrev pub invariant-loop-at : goal.invariant-loop-at
invariant-loop-at l = record {
  begins : Extends l.self.labels.items l.fn.self.labels.items;
  some : l.first < length l.self.labels.items;
  few : length l.self.labels.items ≤ l.first + 1 + l.at;
  within : l.at ≤ length l.list;
  packed : ArePacked l.self.labels.items l.first l.runs.items l.list l.at;
}

abbrev pub decreases-loop-at : goal.decreases-loop-at
decreases-loop-at l = length l.list - l.at
