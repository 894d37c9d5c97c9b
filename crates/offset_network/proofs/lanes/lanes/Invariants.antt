use Rattle.std.proofs.Common.{ℕ}
use Rattle.offset_network.specs.Lanes.{AreLanesOf, IsLaneIn, lane_at}
use Rattle.offset_network.proofs.lanes.lanes.Given as goal

abbrev pub invariant-loop-link : goal.invariant-loop-link
invariant-loop-link l = record {
  lanes : AreLanesOf l.steep l.links l.link-index l.lanes.items;
  fit : (i : ℕ) → IsLaneIn l.regions (lane_at l.lanes.items i);
}
