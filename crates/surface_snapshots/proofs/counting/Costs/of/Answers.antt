use Rattle.std.proofs.Common.{◌∙◌, arith}
use Rattle.raster_model.specs.Masks.{open_at}
use Rattle.raster_model.specs.Raster.{lifted, seam_cost_from}
use Rattle.raster_model.specs.Scene.{raster_of}
use Rattle.raster_model.proofs.TileLemmas.{tiles_are_numbered}
use Rattle.certificates.proofs.SeamCosts.{seam_cost_is}
use Rattle.surface_snapshots.specs.Loops.{inner_cost_from}
use Rattle.surface_snapshots.proofs.CostLemmas.{from_first, tile_costs_are}
use Rattle.surface_snapshots.proofs.counting.Costs.of.Goals as goal

pub rows_costs-requires-clause-known : goal.rows_costs-requires-clause-known
rows_costs-requires-clause-known g c = λ x y l h from to clear. c.requires.known x y l h clear

pub returns-clause-tiles : goal.returns-clause-tiles
returns-clause-tiles g c =
    let s = c.args.scene.now in
    let r = raster_of s in
    let mask = open_at c.args.mask.now in
    let S = lifted r (g.H.Heights.cycles_at c.args.heights.now) in
    from_first s.phase.width s.phase.height c.rows_costs.result.tiles (inner_cost_from r mask S) c.rows_costs.ensures.0
    ∙ tile_costs_are r mask S (λ x y l h. tiles_are_numbered s.tiling x y (omega (arith, l, s.same_width)) (omega (arith, h, s.same_height)))

pub returns-clause-seams : goal.returns-clause-seams
returns-clause-seams g c =
    let s = c.args.scene.now in
    let r = raster_of s in
    let mask = open_at c.args.mask.now in
    let S = lifted r (g.H.Heights.cycles_at c.args.heights.now) in
    from_first s.phase.width s.phase.height c.rows_costs.result.seams (seam_cost_from r mask S) c.rows_costs.ensures.1 ∙ seam_cost_is r mask S
