use Rattle.shortest_augment.specs.Balance.{IsServed, AreReady}
use Rattle.shortest_augment.proofs.balancing.serve_round.Given as goal

abbrev pub invariant-loop-source : goal.invariant-loop-source
invariant-loop-source g l = record {
  served : IsServed (g.N.FlowNet.shape l.fn.net) (g.N.FlowNet.shape l.net) (g.N.FlowNet.state l.fn.net) (g.N.FlowNet.state l.net);
  origin : g.N.FlowNet.same_origin l.fn.net l.net;
  ready : AreReady (g.N.FlowNet.shape l.net) l.search l.marks.items;
}
