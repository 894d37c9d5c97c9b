use Rattle.std.proofs.Common.{◌≡◌, ℕ, arith, subst}
use Rattle.raster_model.specs.Masks.{open_at}
use Rattle.raster_model.specs.Raster.{lifted}
use Rattle.raster_model.specs.Scene.{raster_of}
use Rattle.surface_snapshots.specs.Loops.{AreOfRows}
use Rattle.surface_snapshots.proofs.CostLemmas.{no_rows, row_more}
use Rattle.surface_snapshots.proofs.counting.rows_costs.Goals as goal

pub loop-y-init : goal.loop-y-init
loop-y-init g c = no_rows _ _ _ c.args.first

pub row_costs-requires-clause-known : goal.row_costs-requires-clause-known
row_costs-requires-clause-known g c = λ x y l h from to clear. c.requires.known x y l h (omega (arith, from, c.loop-y.auto)) (omega (arith, to, c.loop-y-test.true)) clear

pub plus-costs-requires-clause-tiles : goal.plus-costs-requires-clause-tiles
plus-costs-requires-clause-tiles g c = omega (arith, c.loop-y.invariant.2, c.row_costs.ensures.small, c.requires.rows, c.loop-y-test.true, c.args.scene.now.high)

pub plus-costs-requires-clause-seams : goal.plus-costs-requires-clause-seams
plus-costs-requires-clause-seams g c = omega (arith, c.loop-y.invariant.2, c.row_costs.ensures.small, c.requires.rows, c.loop-y-test.true, c.args.scene.now.high)

pub loop-y-preserved : goal.loop-y-preserved
loop-y-preserved g c =
    let r = raster_of c.args.scene.now in
    let mask = open_at c.args.mask.now in
    let S = lifted r (g.H.Heights.cycles_at c.args.heights.now) in
    row_more r mask S c.args.first c.loop-y.y c.loop-y.costs c.row_costs.result c.plus-costs.result (omega (arith, c.loop-y.auto)) c.loop-y.invariant c.row_costs.ensures.tiles c.row_costs.ensures.seams c.row_costs.ensures.small c.plus-costs.ensures.tiles c.plus-costs.ensures.seams

pub returns : goal.returns
returns g c =
    let r = raster_of c.args.scene.now in
    let mask = open_at c.args.mask.now in
    let S = lifted r (g.H.Heights.cycles_at c.args.heights.now) in
    let e : c.loop-y.y ≡ c.args.end = omega (arith, c.loop-y.auto, c.loop-y-test.false, c.requires.rows) in
    subst (λ (n : ℕ). AreOfRows r mask S c.args.first n c.loop-y.costs) e c.loop-y.invariant
