use Rattle.std.proofs.Common.{◌∙◌, arith, subst, sym}
use Rattle.raster_model.specs.MaskView.{MaskView}
use Rattle.raster_model.specs.Masks.{open_at}
use Rattle.raster_model.specs.Raster.{lifted, seam_cost_from}
use Rattle.raster_model.proofs.TileLemmas.{tiles_are_numbered}
use Rattle.certificates.proofs.SeamCosts.{seam_cost_is}
use Rattle.surface_snapshots.specs.Loops.{AreOfRows, inner_cost_from}
use Rattle.surface_snapshots.specs.Shifted.{cycles_under, raster_under}
use Rattle.surface_snapshots.proofs.CostLemmas.{from_first, tile_costs_are}
use Rattle.surface_snapshots.proofs.counting.Costs.side_by_side.Goals as goal

pub returns-clause-tiles : goal.returns-clause-tiles
returns-clause-tiles g c =
    let s = c.args.surface.now in
    let r = raster_under s in
    let p = s.scene.now in
    let S = lifted r (cycles_under s) in
    let counted = subst (λ (m : MaskView). AreOfRows r (open_at m) S 0 p.phase.height c.count.result) (sym c.requires.mask) c.count.ensures in
    from_first p.phase.width p.phase.height c.count.result.tiles (inner_cost_from r (open_at c.args.mask.now) S) counted.0
    ∙ tile_costs_are r (open_at c.args.mask.now) S (λ x y l h. tiles_are_numbered p.tiling x y (omega (arith, l, p.same_width)) (omega (arith, h, p.same_height)))

pub returns-clause-seams : goal.returns-clause-seams
returns-clause-seams g c =
    let s = c.args.surface.now in
    let r = raster_under s in
    let p = s.scene.now in
    let S = lifted r (cycles_under s) in
    let counted = subst (λ (m : MaskView). AreOfRows r (open_at m) S 0 p.phase.height c.count.result) (sym c.requires.mask) c.count.ensures in
    from_first p.phase.width p.phase.height c.count.result.seams (seam_cost_from r (open_at c.args.mask.now) S) counted.1 ∙ seam_cost_is r (open_at c.args.mask.now) S
