use Rattle.std.proofs.Common.{sym, arith}
use Rattle.raster_model.specs.Sums.{sum_row}
use Rattle.raster_model.proofs.WindowCosts.{rows_start, total}
use Rattle.certificates.specs.TileWords.{held_mask, held_raster, surface_of_cycles, cost_at}
use Rattle.certificates.proofs.SeamCosts.{adds}
use Rattle.certificates.proofs.tile.Tile.cost.Goals as goal

pub loop-y-init : goal.loop-y-init
loop-y-init g c =
    let k = c.args.self.now in
    let S = surface_of_cycles k (g.H.Heights.cycles_at c.args.heights.now) in
    record { sum = sym (rows_start (held_raster k) (held_mask k) S k.number k.window k.pixels); small = omega arith }

pub loop-y-preserved : goal.loop-y-preserved
loop-y-preserved g c =
    let k = c.args.self.now in
    let f = cost_at k (g.H.Heights.cycles_at c.args.heights.now) in
    record {
      sum = adds c.loop-y.y c.loop-y.cost c.row_cost-cost.result (sum_row k.sheet.phase.now.width f) c.loop-y.invariant.sum c.row_cost-cost.ensures.value;
      small = omega (arith, c.loop-y.invariant.small, c.row_cost-cost.ensures.small);
    }

pub returns : goal.returns
returns g c =
    let k = c.args.self.now in
    let S = surface_of_cycles k (g.H.Heights.cycles_at c.args.heights.now) in
    total (held_raster k) (held_mask k) S k.number k.window k.pixels c.loop-y.y _ (omega arith) c.loop-y.invariant.sum
