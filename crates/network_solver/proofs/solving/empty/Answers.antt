use Rattle.std.proofs.Common.{subst}
use Rattle.flow_network.specs.Nets.{Shape, HasReducedCosts}
use Rattle.network_solver.proofs.BlockLemmas.{near_start, never_blocked}
use Rattle.network_solver.proofs.solving.empty.Goals as goal

pub balance-requires-clause-flat : goal.balance-requires-clause-flat
balance-requires-clause-flat g c = c.requires.1.flat

pub balance-requires-clause-bounded : goal.balance-requires-clause-bounded
balance-requires-clause-bounded g c = c.requires.1.bounded

pub unreachable-requires : goal.unreachable-requires
unreachable-requires g c =
    let s = g.N.FlowNet.shape c.args.net.now in
    let f = g.N.FlowNet.state c.args.net.now in
    let after = g.N.FlowNet.state c.balance.new.net in
    let kept = subst (λ (z : Shape). HasReducedCosts z after) c.balance.ensures.kept.shape (g.met.N.FlowNet.has_reduced_costs c.balance.new.net) in
    never_blocked c.requires.0 s f after c.requires.1 c.balance.ensures.moved c.in-Err-Blocked.field-0-0.items kept (rw (c.in-Err-Blocked.is, c.in-Err-Blocked.field-0-is) at c.balance.ensures.blocked)

pub returns-clause-near : goal.returns-clause-near
returns-clause-near g c = λ start fresh. near_start start (g.N.FlowNet.shape c.args.net.now) (g.N.FlowNet.state c.args.net.now) (g.N.FlowNet.state c.balance.new.net) fresh c.balance.ensures.moved
