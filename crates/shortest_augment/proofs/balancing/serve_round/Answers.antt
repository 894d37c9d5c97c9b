use Rattle.shortest_augment.proofs.Blocking.{served-refl, served-trans, has_depths}
use Rattle.shortest_augment.proofs.balancing.serve_round.Goals as goal

pub loop-source-init : goal.loop-source-init
loop-source-init g c = record {
  served = served-refl (g.N.FlowNet.shape c.args.net.now) (g.N.FlowNet.state c.args.net.now) (g.met.N.FlowNet.is_network c.args.net.now);
  origin = g.met.N.FlowNet.origin_stays c.args.net.now;
  ready = c.requires.ready;
}

pub loop-source-preserved : goal.loop-source-preserved
loop-source-preserved g c =
    let inv = c.loop-source.invariant in
    record {
      served = served-trans (g.N.FlowNet.shape c.args.net.now) (g.N.FlowNet.shape c.loop-source.net) (g.N.FlowNet.shape c.serve_near.new.net) (g.N.FlowNet.state c.args.net.now) (g.N.FlowNet.state c.loop-source.net) (g.N.FlowNet.state c.serve_near.new.net) inv.served c.serve_near.ensures.served;
      origin = g.met.N.FlowNet.origin_follows c.args.net.now c.loop-source.net c.serve_near.new.net inv.origin c.serve_near.ensures.origin;
      ready = c.in_ok-serve_near.ensures.ready;
    }

pub serve_near-requires-clause-depths : goal.serve_near-requires-clause-depths
serve_near-requires-clause-depths g c = has_depths (g.N.FlowNet.shape c.args.net.now) (g.N.FlowNet.shape c.loop-source.net) (g.N.FlowNet.state c.args.net.now) (g.N.FlowNet.state c.loop-source.net) c.loop-source.invariant.served c.requires.depths

pub returns-in_err-serve_near-clause-served : goal.returns-in_err-serve_near-clause-served
returns-in_err-serve_near-clause-served g c = served-trans (g.N.FlowNet.shape c.args.net.now) (g.N.FlowNet.shape c.loop-source.net) (g.N.FlowNet.shape c.serve_near.new.net) (g.N.FlowNet.state c.args.net.now) (g.N.FlowNet.state c.loop-source.net) (g.N.FlowNet.state c.serve_near.new.net) c.loop-source.invariant.served c.serve_near.ensures.served

pub returns-in_err-serve_near-clause-origin : goal.returns-in_err-serve_near-clause-origin
returns-in_err-serve_near-clause-origin g c = g.met.N.FlowNet.origin_follows c.args.net.now c.loop-source.net c.serve_near.new.net c.loop-source.invariant.origin c.serve_near.ensures.origin
