use Rattle.raster_model.proofs.WeighLemmas.{rule_weights}
use Rattle.edge_weights.proofs.numbers.weigh_by.Goals as goal

pub returns : goal.returns
returns g c =
    rule_weights (g.R.EndRule.kind c.args.rule.now) c.args.weights.now (record { right = c.in_ok-right.field-0; down = c.in_ok-down.field-0 })
    (rw c.in_ok-right.was at c.right.ensures) (rw c.in_ok-down.was at c.down.ensures)
