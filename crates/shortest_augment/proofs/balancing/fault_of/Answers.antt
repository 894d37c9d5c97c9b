use Rattle.shortest_augment.proofs.Blocking.{blocked}
use Rattle.shortest_augment.proofs.balancing.fault_of.Goals as goal

pub returns-in-Ok : goal.returns-in-Ok
returns-in-Ok g c =
    let h = c.requires.depths in
    let r = c.requires.source in
    blocked (g.N.FlowNet.shape c.args.net.now) (g.N.FlowNet.state c.args.net.now) r.0 h.0 c.args.search.now.labels.items c.in-Ok.names.items (g.met.N.FlowNet.is_network c.args.net.now) (g.met.N.FlowNet.has_reduced_costs c.args.net.now) h.1.0 h.1.1 r.1.2 c.in-Ok.ensures.names c.in-Ok.ensures.rising r.1.0 r.1.1
