use Rattle.flow_network.specs.Nets.{total_excess}
use Rattle.std.proofs.Common.{◌<◌, ◌≤◌, ℕ}
use Rattle.std.specs.Prelude.{unsigned_abs, pos, ◌≤ℤ◌}
use Rattle.shortest_augment.specs.Balance.{IsServed, AreReady}
use Rattle.shortest_augment.proofs.balancing.serve_all.Given as goal

abbrev pub invariant-loop-source : goal.invariant-loop-source
invariant-loop-source g l = record {
  served : IsServed (g.N.FlowNet.shape l.fn.net) (g.N.FlowNet.shape l.net) (g.N.FlowNet.state l.fn.net) (g.N.FlowNet.state l.net);
  origin : g.N.FlowNet.same_origin l.fn.net l.net;
  ready : AreReady (g.N.FlowNet.shape l.net) l.search l.marks.items;
  low : l.from ≤ (g.N.FlowNet.shape l.net).nodes;
  before : (v : ℕ) → v < l.from → (g.N.FlowNet.state l.net).excess v ≤ℤ pos 0;
}

abbrev pub decreases-loop-source : goal.decreases-loop-source
decreases-loop-source g l = unsigned_abs (total_excess (g.N.FlowNet.shape l.fn.net) (g.N.FlowNet.state l.net))
