use Rattle.std.proofs.Common.{◌∙◌, ap, sym, arith, length}
use Rattle.std.specs.Prelude.{Option, pos, ◌-ℤ◌}
use Rattle.flow_network.specs.Views.{state_of}
use Rattle.offset_network.specs.Networks.{flow_left}
use Rattle.offset_network.proofs.AnswerLemmas.{flow_is, flow_small, left_small}
use Rattle.offset_network.proofs.answer.flow.Goals as goal
use Rattle.sums_and_lists.proofs.Orders.{is_below}

pub residual-requires : goal.residual-requires
residual-requires c =
    let b = (c.requires.arc c.in-Some.lane c.in-Some.is).below in
    is_below c.args.arc (length c.args.net.now.heads.items) (omega (arith, b))

pub overflow_cast-result : goal.overflow_cast-result
overflow_cast-result c = (flow_is c.in-Some.lane.low c.in-Some.lane.high c.residual.result c.from.result (c.requires.range c.in-Some.lane c.in-Some.is) (left_small c.in-Some.lane.low c.in-Some.lane.high c.residual.result _ _ (c.requires.arc c.in-Some.lane c.in-Some.is).capacity (c.requires.range c.in-Some.lane c.in-Some.is) c.residual.ensures) c.from.ensures).0

pub overflow_sub-result : goal.overflow_sub-result
overflow_sub-result c = (flow_is c.in-Some.lane.low c.in-Some.lane.high c.residual.result c.from.result (c.requires.range c.in-Some.lane c.in-Some.is) (left_small c.in-Some.lane.low c.in-Some.lane.high c.residual.result _ _ (c.requires.arc c.in-Some.lane c.in-Some.is).capacity (c.requires.range c.in-Some.lane c.in-Some.is) c.residual.ensures) c.from.ensures).1

pub returns-in-Some-clause-value : goal.returns-in-Some-clause-value
returns-in-Some-clause-value c =
    let k = c.in-Some.lane in
    (flow_is c.in-Some.lane.low c.in-Some.lane.high c.residual.result c.from.result (c.requires.range c.in-Some.lane c.in-Some.is) (left_small c.in-Some.lane.low c.in-Some.lane.high c.residual.result _ _ (c.requires.arc c.in-Some.lane c.in-Some.is).capacity (c.requires.range c.in-Some.lane c.in-Some.is) c.residual.ensures) c.from.ensures).2
    ∙ ap (λ (n : _). pos k.high -ℤ pos n) c.residual.ensures
    ∙ sym (ap (λ (o : Option _). flow_left o ((state_of c.args.net.now).residual c.args.arc)) c.in-Some.is)

pub returns-in-Some-clause-small : goal.returns-in-Some-clause-small
returns-in-Some-clause-small c =
    rw (flow_is c.in-Some.lane.low c.in-Some.lane.high c.residual.result c.from.result (c.requires.range c.in-Some.lane c.in-Some.is) (left_small c.in-Some.lane.low c.in-Some.lane.high c.residual.result _ _ (c.requires.arc c.in-Some.lane c.in-Some.is).capacity (c.requires.range c.in-Some.lane c.in-Some.is) c.residual.ensures) c.from.ensures).2 (flow_small c.in-Some.lane.low c.in-Some.lane.high c.residual.result _ _ (c.requires.arc c.in-Some.lane c.in-Some.is).capacity (c.requires.range c.in-Some.lane c.in-Some.is) c.residual.ensures)
