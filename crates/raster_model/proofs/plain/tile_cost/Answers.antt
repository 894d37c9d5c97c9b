use Rattle.raster_model.specs.Raster.{tile_cost as tile_cost_of}
use Rattle.raster_model.specs.Plain.{part_cost, part_edge_cost}
use Rattle.raster_model.proofs.plain.tile_cost.Goals as goal

pub returns : goal.returns
unfolding tile_cost_of part_cost part_edge_cost
returns g c = c.cost_of.ensures
