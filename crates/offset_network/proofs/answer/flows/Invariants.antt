use Rattle.std.proofs.Common.{◌≡◌, ℕ, ◌≤◌}
use Rattle.std.specs.Prelude.{pos, slice_index_or, unsigned_abs}
use Rattle.flow_network.specs.Views.{state_of}
use Rattle.offset_network.specs.Lanes.{arcs_before}
use Rattle.offset_network.specs.Networks.{AreFlows}
use Rattle.offset_network.proofs.answer.flows.Given as goal

abbrev pub invariant-loop-lane : goal.invariant-loop-lane
invariant-loop-lane l = record {
  arcs : l.arc ≡ arcs_before l.lanes l.lane-index;
  flows : AreFlows l.lanes (state_of l.net) l.lane-index l.flows.items;
  small : (j : ℕ) → unsigned_abs (slice_index_or l.flows.items j (pos 0)) ≤ 983025;
}
