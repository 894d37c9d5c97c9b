use Rattle.std.proofs.Common.{arith}
use Rattle.raster_model.specs.Weights.{rule_number}
use Rattle.edge_weights.proofs.ListLemmas.{numbered_next}
use Rattle.edge_weights.proofs.numbers.set_numbers.Goals as goal

pub loop-place-preserved : goal.loop-place-preserved
loop-place-preserved g c =
    numbered_next (rule_number (g.R.EndRule.kind c.args.rule.now) (g.R.EndRule.maxval c.args.rule.now)) c.args.firsts.now c.args.others.now c.args.start c.loop-place.place c.number.result c.args.list.now c.loop-place.list
    (omega (arith, c.loop-place.invariant.count)) c.number.ensures c.loop-place.invariant
