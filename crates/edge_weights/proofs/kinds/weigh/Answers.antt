use Rattle.raster_model.proofs.WeighLemmas.{rule_weights}
use Rattle.edge_weights.proofs.kinds.weigh.Goals as goal

pub returns : goal.returns
returns c =
    rule_weights c.args.rule c.args.weights.now (record { right = c.in_ok-weigh_right.field-0; down = c.in_ok-weigh_down.field-0 })
    (rw c.in_ok-weigh_right.was at c.weigh_right.ensures) (rw c.in_ok-weigh_down.was at c.weigh_down.ensures)
