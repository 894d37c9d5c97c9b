use Rattle.std.proofs.Common.{◌≡◌, ◌-◌, ◌≤◌, length}
use Rattle.surface_snapshots.specs.Strips.{AreCounted}
use Rattle.surface_snapshots.proofs.blocks.strip_costs.Given as goal

abbrev pub invariant-loop-y : goal.invariant-loop-y
invariant-loop-y l = record {
  within : (l.first ≤ l.y) × (l.y ≤ l.end);
  size : length l.cycles ≡ length l.fn.cycles;
  costs : AreCounted l.surface l.first l.y l.costs;
}

abbrev pub decreases-loop-y : goal.decreases-loop-y
decreases-loop-y l = l.end - l.y
