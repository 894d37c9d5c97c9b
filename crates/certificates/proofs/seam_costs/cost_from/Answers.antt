use Rattle.raster_model.specs.Masks.{open_at}
use Rattle.raster_model.specs.Raster.{lifted}
use Rattle.raster_model.specs.Scene.{raster_of}
use Rattle.certificates.proofs.SeamCosts.{both_seam_costs}
use Rattle.certificates.proofs.seam_costs.cost_from.Goals as goal

pub returns-clause-value : goal.returns-clause-value
returns-clause-value g c =
    let r = raster_of c.args.scene.now in
    both_seam_costs r (open_at c.args.mask.now) (lifted r (g.H.Heights.cycles_at c.args.heights.now)) c.args.x c.args.y c.edge_cost-to_right.result c.edge_cost.result c.requires.pixel.0 c.requires.pixel.1 c.edge_cost-to_right.ensures.value c.edge_cost.ensures.value
