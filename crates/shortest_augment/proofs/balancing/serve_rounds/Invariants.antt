use Rattle.std.proofs.Common.{◌<◌, ◌-◌, ◌^◌}
use Rattle.shortest_augment.specs.Balance.{IsServed, AreReady}
use Rattle.shortest_augment.proofs.balancing.serve_rounds.Given as goal

abbrev pub invariant-loop-limit : goal.invariant-loop-limit
invariant-loop-limit g l = record {
  served : IsServed (g.N.FlowNet.shape l.fn.net) (g.N.FlowNet.shape l.net) (g.N.FlowNet.state l.fn.net) (g.N.FlowNet.state l.net);
  origin : g.N.FlowNet.same_origin l.fn.net l.net;
  ready : AreReady (g.N.FlowNet.shape l.net) l.search l.marks.items;
  some : 0 < l.limit;
}

abbrev pub decreases-loop-limit : goal.decreases-loop-limit
decreases-loop-limit g l = 2 ^ 62 - l.limit
