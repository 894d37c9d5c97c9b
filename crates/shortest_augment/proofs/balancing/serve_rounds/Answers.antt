use Rattle.std.proofs.Common.{arith}
use Rattle.shortest_augment.proofs.Blocking.{served-refl, served-trans, has_depths}
use Rattle.shortest_augment.proofs.balancing.serve_rounds.Goals as goal

pub loop-limit-init : goal.loop-limit-init
loop-limit-init g c = record {
  served = served-refl (g.N.FlowNet.shape c.args.net.now) (g.N.FlowNet.state c.args.net.now) (g.met.N.FlowNet.is_network c.args.net.now);
  origin = g.met.N.FlowNet.origin_stays c.args.net.now;
  ready = c.requires.ready;
  some = omega arith;
}

pub loop-limit-preserved : goal.loop-limit-preserved
loop-limit-preserved g c =
    let inv = c.loop-limit.invariant in
    record {
      served = served-trans (g.N.FlowNet.shape c.args.net.now) (g.N.FlowNet.shape c.loop-limit.net) (g.N.FlowNet.shape c.serve_round.new.net) (g.N.FlowNet.state c.args.net.now) (g.N.FlowNet.state c.loop-limit.net) (g.N.FlowNet.state c.serve_round.new.net) inv.served c.serve_round.ensures.served;
      origin = g.met.N.FlowNet.origin_follows c.args.net.now c.loop-limit.net c.serve_round.new.net inv.origin c.serve_round.ensures.origin;
      ready = c.in_ok-serve_round.ensures.ready;
      some = (let m = inv.some in omega (arith, m));
    }

pub serve_round-requires-clause-depths : goal.serve_round-requires-clause-depths
serve_round-requires-clause-depths g c = has_depths (g.N.FlowNet.shape c.args.net.now) (g.N.FlowNet.shape c.loop-limit.net) (g.N.FlowNet.state c.args.net.now) (g.N.FlowNet.state c.loop-limit.net) c.loop-limit.invariant.served c.requires.depths

pub returns-in_err-serve_round-clause-served : goal.returns-in_err-serve_round-clause-served
returns-in_err-serve_round-clause-served g c = served-trans (g.N.FlowNet.shape c.args.net.now) (g.N.FlowNet.shape c.loop-limit.net) (g.N.FlowNet.shape c.serve_round.new.net) (g.N.FlowNet.state c.args.net.now) (g.N.FlowNet.state c.loop-limit.net) (g.N.FlowNet.state c.serve_round.new.net) c.loop-limit.invariant.served c.serve_round.ensures.served

pub returns-in_err-serve_round-clause-origin : goal.returns-in_err-serve_round-clause-origin
returns-in_err-serve_round-clause-origin g c = g.met.N.FlowNet.origin_follows c.args.net.now c.loop-limit.net c.serve_round.new.net c.loop-limit.invariant.origin c.serve_round.ensures.origin
