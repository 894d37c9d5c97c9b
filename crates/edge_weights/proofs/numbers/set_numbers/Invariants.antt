use Rattle.raster_model.specs.Weights.{rule_number}
use Rattle.edge_weights.specs.Pairs.{AreNumbered}
use Rattle.edge_weights.proofs.numbers.set_numbers.Given as goal

abbrev pub invariant-loop-place : goal.invariant-loop-place
invariant-loop-place g l = AreNumbered (rule_number (g.R.EndRule.kind l.rule) (g.R.EndRule.maxval l.rule)) l.firsts l.others l.start l.place l.fn.list l.list
