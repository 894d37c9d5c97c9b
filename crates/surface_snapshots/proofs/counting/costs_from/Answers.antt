use Rattle.std.proofs.Common.{◌+◌, ◌<◌, ◌∙◌, ap, arith, pos}
use Rattle.std.proofs.lemmas.Bool.Decides.{nat_tests}
use Rattle.raster_model.specs.Masks.{open_at}
use Rattle.raster_model.specs.Raster.{lifted}
use Rattle.raster_model.specs.Scene.{raster_of}
use Rattle.surface_snapshots.proofs.CostLemmas.{both_edges, both_seams, lower_inside, lower_open, right_inside, right_open}
use Rattle.surface_snapshots.proofs.counting.costs_from.Goals as goal

pub side_costs-costs-requires-clause-inside : goal.side_costs-costs-requires-clause-inside
side_costs-costs-requires-clause-inside g c = right_inside c.args.scene.now.phase.width c.args.scene.now.phase.height c.args.x c.args.y c.requires.pixel.0 c.requires.pixel.1

pub side_costs-costs-requires-clause-unmasked : goal.side_costs-costs-requires-clause-unmasked
side_costs-costs-requires-clause-unmasked g c t i =
    let next : c.args.x + 1 < c.args.scene.now.phase.width = grind (arith, nat_tests, i) in
    right_open c.args.mask.now c.args.x c.args.y (c.requires.unmasked t) (omega (arith, next, c.requires.same_size)) (omega (arith, c.requires.pixel, c.requires.same_size))

pub side_costs-requires-clause-inside : goal.side_costs-requires-clause-inside
side_costs-requires-clause-inside g c = lower_inside c.args.scene.now.phase.width c.args.scene.now.phase.height c.args.x c.args.y c.requires.pixel.0 c.requires.pixel.1

pub side_costs-requires-clause-unmasked : goal.side_costs-requires-clause-unmasked
side_costs-requires-clause-unmasked g c t i =
    let next : c.args.y + 1 < c.args.scene.now.phase.height = grind (arith, nat_tests, i) in
    lower_open c.args.mask.now c.args.x c.args.y (c.requires.unmasked t) (omega (arith, c.requires.pixel, c.requires.same_size)) (omega (arith, next, c.requires.same_size))

pub returns-clause-tiles : goal.returns-clause-tiles
returns-clause-tiles g c =
    let r = raster_of c.args.scene.now in
    let mask = open_at c.args.mask.now in
    let S = lifted r (g.H.Heights.cycles_at c.args.heights.now) in
    ap pos c.plus.ensures.tiles
    ∙ both_edges r mask S c.args.x c.args.y c.side_costs-costs.result.tiles c.side_costs.result.tiles c.side_costs-costs.ensures.tiles c.side_costs.ensures.tiles

pub returns-clause-seams : goal.returns-clause-seams
returns-clause-seams g c =
    let r = raster_of c.args.scene.now in
    let mask = open_at c.args.mask.now in
    let S = lifted r (g.H.Heights.cycles_at c.args.heights.now) in
    ap pos c.plus.ensures.seams
    ∙ both_seams r mask S c.args.x c.args.y c.side_costs-costs.result.seams c.side_costs.result.seams c.side_costs-costs.ensures.seams c.side_costs.ensures.seams
