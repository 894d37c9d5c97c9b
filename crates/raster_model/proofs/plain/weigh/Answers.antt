use Rattle.raster_model.proofs.WeighLemmas.{rule_weights}
use Rattle.raster_model.proofs.plain.weigh.Goals as goal

pub returns : goal.returns
returns c =
    rule_weights c.args.rule c.args.weights.now (record { right = c.in_ok-right_weights.field-0; down = c.in_ok-down_weights.field-0 })
    (rw c.in_ok-right_weights.was at c.right_weights.ensures) (rw c.in_ok-down_weights.was at c.down_weights.ensures)
