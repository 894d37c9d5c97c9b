use Rattle.std.proofs.Common.{subst}
use Rattle.std.specs.Prelude.{◌<ℤ◌}
use Rattle.flow_network.specs.Nets.{Shape, total_excess}
use Rattle.shortest_augment.proofs.Blocking.{served-refl, served-trans, has_depths, measure, total_excess-not_below}
use Rattle.shortest_augment.proofs.balancing.serve_near.Goals as goal

pub loop-alloc-init : goal.loop-alloc-init
loop-alloc-init g c = record {
  served = served-refl (g.N.FlowNet.shape c.args.net.now) (g.N.FlowNet.state c.args.net.now) (g.met.N.FlowNet.is_network c.args.net.now);
  origin = g.met.N.FlowNet.origin_stays c.args.net.now;
  ready = c.requires.ready;
}

pub loop-alloc-preserved : goal.loop-alloc-preserved
loop-alloc-preserved g c =
    let inv = c.loop-alloc.invariant in
    record {
      served = served-trans (g.N.FlowNet.shape c.args.net.now) (g.N.FlowNet.shape c.loop-alloc.net) (g.N.FlowNet.shape c.serve.new.net) (g.N.FlowNet.state c.args.net.now) (g.N.FlowNet.state c.loop-alloc.net) (g.N.FlowNet.state c.serve.new.net) inv.served c.serve.ensures.served;
      origin = g.met.N.FlowNet.origin_follows c.args.net.now c.loop-alloc.net c.serve.new.net inv.origin c.serve.ensures.origin;
      ready = c.in_ok-serve.ensures.ready;
    }

pub serve-requires-clause-depths : goal.serve-requires-clause-depths
serve-requires-clause-depths g c = has_depths (g.N.FlowNet.shape c.args.net.now) (g.N.FlowNet.shape c.loop-alloc.net) (g.N.FlowNet.state c.args.net.now) (g.N.FlowNet.state c.loop-alloc.net) c.loop-alloc.invariant.served c.requires.depths

pub returns-in_err-serve-clause-served : goal.returns-in_err-serve-clause-served
returns-in_err-serve-clause-served g c = served-trans (g.N.FlowNet.shape c.args.net.now) (g.N.FlowNet.shape c.loop-alloc.net) (g.N.FlowNet.shape c.serve.new.net) (g.N.FlowNet.state c.args.net.now) (g.N.FlowNet.state c.loop-alloc.net) (g.N.FlowNet.state c.serve.new.net) c.loop-alloc.invariant.served c.serve.ensures.served

pub returns-in_err-serve-clause-origin : goal.returns-in_err-serve-clause-origin
returns-in_err-serve-clause-origin g c = g.met.N.FlowNet.origin_follows c.args.net.now c.loop-alloc.net c.serve.new.net c.loop-alloc.invariant.origin c.serve.ensures.origin

pub loop-alloc-smaller : goal.loop-alloc-smaller
loop-alloc-smaller g c =
    let s = g.N.FlowNet.shape c.args.net.now in
    let now = g.N.FlowNet.state c.loop-alloc.net in
    let then = g.N.FlowNet.state c.serve.new.net in
    let falls : total_excess s then <ℤ total_excess s now = subst (λ (t : Shape). total_excess t then <ℤ total_excess t now) c.loop-alloc.invariant.served.shape (c.in_ok-serve.ensures.falls c.if-not-branch.false) in
    measure (total_excess s then) (total_excess s now) (total_excess-not_below s then) falls

pub returns-then-not-branch-clause-origin : goal.returns-then-not-branch-clause-origin
returns-then-not-branch-clause-origin g c = g.met.N.FlowNet.origin_follows c.args.net.now c.loop-alloc.net c.serve.new.net c.loop-alloc.invariant.origin c.serve.ensures.origin

pub excess-requires : goal.excess-requires
excess-requires g c = rw c.loop-alloc.invariant.served.shape c.requires.source

pub serve-requires-clause-source : goal.serve-requires-clause-source
serve-requires-clause-source g c = rw c.loop-alloc.invariant.served.shape c.requires.source

pub serve-requires-clause-ready : goal.serve-requires-clause-ready
serve-requires-clause-ready g c = c.loop-alloc.invariant.ready

pub returns-then-not-branch-clause-served : goal.returns-then-not-branch-clause-served
returns-then-not-branch-clause-served g c = served-trans (g.N.FlowNet.shape c.args.net.now) (g.N.FlowNet.shape c.loop-alloc.net) (g.N.FlowNet.shape c.serve.new.net) (g.N.FlowNet.state c.args.net.now) (g.N.FlowNet.state c.loop-alloc.net) (g.N.FlowNet.state c.serve.new.net) c.loop-alloc.invariant.served c.serve.ensures.served

pub returns-then-not-branch-clause-ready : goal.returns-then-not-branch-clause-ready
returns-then-not-branch-clause-ready g c = c.in_ok-serve.ensures.ready

pub returns-clause-served : goal.returns-clause-served
returns-clause-served g c = c.loop-alloc.invariant.served

pub returns-clause-origin : goal.returns-clause-origin
returns-clause-origin g c = c.loop-alloc.invariant.origin

pub returns-clause-ready : goal.returns-clause-ready
returns-clause-ready g c = c.loop-alloc.invariant.ready
