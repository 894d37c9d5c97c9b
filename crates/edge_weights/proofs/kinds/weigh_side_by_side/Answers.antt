use Rattle.raster_model.proofs.WeighLemmas.{rule_weights}
use Rattle.edge_weights.proofs.kinds.weigh_side_by_side.Goals as goal

pub returns : goal.returns
returns g c =
    rule_weights c.args.rule c.args.weights.now (record { right = c.in_ok-right.field-0; down = c.in_ok-down.field-0 })
    (rw c.in_ok-right.was at c.both-right.ensures.right) (rw c.in_ok-down.was at c.both-right.ensures.down)
