use Rattle.offset_network.proofs.LaneListLemmas.{departure_less, lane_made}
use Rattle.offset_network.proofs.lanes.lane.Goals as goal

pub overflow_sub-result : goal.overflow_sub-result
overflow_sub-result c = (departure_less c.in_ok-link.link.departure c.from.result c.args.less c.from.ensures (c.requires.departure c.in_ok-link.link c.in_ok-link.was) c.requires.less).0

pub returns : goal.returns
returns c = lane_made c.args.link c.in_ok-link.link c.args.low c.args.high c.args.less _ c.in_ok-link.was c.if-low-high-eq0.false (departure_less c.in_ok-link.link.departure c.from.result c.args.less c.from.ensures (c.requires.departure c.in_ok-link.link c.in_ok-link.was) c.requires.less).1
