use Rattle.std.proofs.Common.{refl}
use Rattle.shortest_augment.proofs.Costs.{sum_fits, parts_of, difference_is, difference, whole_size, fits, cast, value, most}
use Rattle.flow_network.specs.Nets.{reduced_cost, tail_of}
use Rattle.shortest_augment.proofs.relax.length_between.Goals as goal

pub overflow_add-result : goal.overflow_add-result
overflow_add-result g c =
    let s = g.N.FlowNet.shape c.args.net.now in
    let f = g.N.FlowNet.state c.args.net.now in
    let p = parts_of s f c.args.arc (tail_of s c.args.arc) c.args.head c.cost-cost.result c.args.potential c.potential-end.result (g.met.N.FlowNet.is_network c.args.net.now) (g.met.N.FlowNet.has_reduced_costs c.args.net.now) c.requires.small c.requires.arc c.requires.left c.cost-cost.ensures refl c.requires.head c.requires.tail c.potential-end.ensures in
    sum_fits c.cost-cost.result c.args.potential c.potential-end.result (reduced_cost s f c.args.arc) p

pub overflow_sub-result : goal.overflow_sub-result
overflow_sub-result g c =
    let s = g.N.FlowNet.shape c.args.net.now in
    let f = g.N.FlowNet.state c.args.net.now in
    let p = parts_of s f c.args.arc (tail_of s c.args.arc) c.args.head c.cost-cost.result c.args.potential c.potential-end.result (g.met.N.FlowNet.is_network c.args.net.now) (g.met.N.FlowNet.has_reduced_costs c.args.net.now) c.requires.small c.requires.arc c.requires.left c.cost-cost.ensures refl c.requires.head c.requires.tail c.potential-end.ensures in
    fits (difference c.cost-cost.result c.args.potential c.potential-end.result) (reduced_cost s f c.args.arc) (difference_is c.cost-cost.result c.args.potential c.potential-end.result (reduced_cost s f c.args.arc) p) p.low (whole_size c.cost-cost.result c.args.potential c.potential-end.result (reduced_cost s f c.args.arc) p)

pub overflow_cast-result : goal.overflow_cast-result
overflow_cast-result g c =
    let s = g.N.FlowNet.shape c.args.net.now in
    let f = g.N.FlowNet.state c.args.net.now in
    let p = parts_of s f c.args.arc (tail_of s c.args.arc) c.args.head c.cost-cost.result c.args.potential c.potential-end.result (g.met.N.FlowNet.is_network c.args.net.now) (g.met.N.FlowNet.has_reduced_costs c.args.net.now) c.requires.small c.requires.arc c.requires.left c.cost-cost.ensures refl c.requires.head c.requires.tail c.potential-end.ensures in
    cast (difference c.cost-cost.result c.args.potential c.potential-end.result) (reduced_cost s f c.args.arc) (difference_is c.cost-cost.result c.args.potential c.potential-end.result (reduced_cost s f c.args.arc) p) p.low (whole_size c.cost-cost.result c.args.potential c.potential-end.result (reduced_cost s f c.args.arc) p)

pub returns-clause-cost : goal.returns-clause-cost
returns-clause-cost g c =
    let s = g.N.FlowNet.shape c.args.net.now in
    let f = g.N.FlowNet.state c.args.net.now in
    let p = parts_of s f c.args.arc (tail_of s c.args.arc) c.args.head c.cost-cost.result c.args.potential c.potential-end.result (g.met.N.FlowNet.is_network c.args.net.now) (g.met.N.FlowNet.has_reduced_costs c.args.net.now) c.requires.small c.requires.arc c.requires.left c.cost-cost.ensures refl c.requires.head c.requires.tail c.potential-end.ensures in
    value (difference c.cost-cost.result c.args.potential c.potential-end.result) (reduced_cost s f c.args.arc) (difference_is c.cost-cost.result c.args.potential c.potential-end.result (reduced_cost s f c.args.arc) p) p.low (whole_size c.cost-cost.result c.args.potential c.potential-end.result (reduced_cost s f c.args.arc) p)

pub returns-clause-most : goal.returns-clause-most
returns-clause-most g c =
    let s = g.N.FlowNet.shape c.args.net.now in
    let f = g.N.FlowNet.state c.args.net.now in
    let p = parts_of s f c.args.arc (tail_of s c.args.arc) c.args.head c.cost-cost.result c.args.potential c.potential-end.result (g.met.N.FlowNet.is_network c.args.net.now) (g.met.N.FlowNet.has_reduced_costs c.args.net.now) c.requires.small c.requires.arc c.requires.left c.cost-cost.ensures refl c.requires.head c.requires.tail c.potential-end.ensures in
    most (difference c.cost-cost.result c.args.potential c.potential-end.result) (reduced_cost s f c.args.arc) (difference_is c.cost-cost.result c.args.potential c.potential-end.result (reduced_cost s f c.args.arc) p) p.low (whole_size c.cost-cost.result c.args.potential c.potential-end.result (reduced_cost s f c.args.arc) p)
