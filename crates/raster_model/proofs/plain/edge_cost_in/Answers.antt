use Rattle.std.proofs.Common.{sym, ◌∙◌}
use Rattle.raster_model.specs.Plain.{part_edge_cost}
use Rattle.raster_model.proofs.plain.edge_cost_in.Goals as goal
use Rattle.sums_and_lists.proofs.SumLemmas.{picked, no_number}

pub returns-then-is_in_part-clause-value : goal.returns-then-is_in_part-clause-value
unfolding part_edge_cost
returns-then-is_in_part-clause-value g c = c.edge_cost.ensures.value ∙ sym (picked _ _ (sym c.is_in_part.ensures ∙ c.if-is_in_part.true))

pub returns-else-is_in_part-clause-value : goal.returns-else-is_in_part-clause-value
unfolding part_edge_cost
returns-else-is_in_part-clause-value g c = sym (no_number _ _ (sym c.is_in_part.ensures ∙ c.if-is_in_part.false))
