use Rattle.std.proofs.Common.{◌∙◌, arith}
use Rattle.raster_model.specs.Masks.{open_at}
use Rattle.raster_model.specs.Raster.{lifted, seam_cost_from}
use Rattle.raster_model.specs.Scene.{raster_of}
use Rattle.raster_model.specs.Sums.{sum_row}
use Rattle.raster_model.proofs.PartLemmas.{grid_all, grid_none}
use Rattle.certificates.proofs.SeamCosts.{adds, seam_cost_is}
use Rattle.certificates.proofs.seam_costs.seam_cost.Goals as goal

pub loop-y-init : goal.loop-y-init
loop-y-init g c = record { sum = grid_none _ _; small = omega arith }

pub loop-y-preserved : goal.loop-y-preserved
loop-y-preserved g c =
    let r = raster_of c.args.scene.now in
    let f = seam_cost_from r (open_at c.args.mask.now) (lifted r (g.H.Heights.cycles_at c.args.heights.now)) in
    record {
      sum = adds c.loop-y.y c.loop-y.cost c.row_cost-cost.result (sum_row r.width f) c.loop-y.invariant.sum c.row_cost-cost.ensures.value;
      small = omega (arith, c.loop-y.invariant.small, c.row_cost-cost.ensures.small);
    }

pub returns : goal.returns
returns g c =
    let r = raster_of c.args.scene.now in
    grid_all _ _ _ _ _ (omega arith) c.loop-y.invariant.sum ∙ seam_cost_is r (open_at c.args.mask.now) (lifted r (g.H.Heights.cycles_at c.args.heights.now))
