use Rattle.flow_network.specs.Nets.{total_excess}
use Rattle.std.specs.Prelude.{unsigned_abs}
use Rattle.shortest_augment.specs.Balance.{IsServed, AreReady}
use Rattle.shortest_augment.proofs.balancing.serve_near.Given as goal

abbrev pub invariant-loop-alloc : goal.invariant-loop-alloc
invariant-loop-alloc g l = record {
  served : IsServed (g.N.FlowNet.shape l.fn.net) (g.N.FlowNet.shape l.net) (g.N.FlowNet.state l.fn.net) (g.N.FlowNet.state l.net);
  origin : g.N.FlowNet.same_origin l.fn.net l.net;
  ready : AreReady (g.N.FlowNet.shape l.net) l.search l.marks.items;
}

abbrev pub decreases-loop-alloc : goal.decreases-loop-alloc
decreases-loop-alloc g l = unsigned_abs (total_excess (g.N.FlowNet.shape l.fn.net) (g.N.FlowNet.state l.net))
