use Rattle.std.proofs.Common.{◌≡◌, ℕ, arith, subst}
use Rattle.raster_model.specs.Raster.{lifted}
use Rattle.surface_snapshots.specs.Shifted.{cycles_under, open_under, raster_under}
use Rattle.surface_snapshots.specs.Strips.{AreCounted}
use Rattle.surface_snapshots.proofs.CostLemmas.{no_rows, row_more}
use Rattle.surface_snapshots.proofs.blocks.costs_of_rows.Goals as goal

pub loop-y-init : goal.loop-y-init
loop-y-init c =
    let s = c.args.block.now.surface in
    no_rows (raster_under s) (open_under s) (lifted (raster_under s) (cycles_under s)) c.args.first

pub plus-costs-requires-clause-tiles : goal.plus-costs-requires-clause-tiles
plus-costs-requires-clause-tiles c = omega (arith, c.loop-y.invariant.2, c.costs_of_row.ensures.small, c.requires.rows, c.loop-y-test.true, c.args.block.now.surface.scene.now.high)

pub plus-costs-requires-clause-seams : goal.plus-costs-requires-clause-seams
plus-costs-requires-clause-seams c = omega (arith, c.loop-y.invariant.2, c.costs_of_row.ensures.small, c.requires.rows, c.loop-y-test.true, c.args.block.now.surface.scene.now.high)

pub loop-y-preserved : goal.loop-y-preserved
loop-y-preserved c =
    let s = c.args.block.now.surface in
    row_more (raster_under s) (open_under s) (lifted (raster_under s) (cycles_under s)) c.args.first c.loop-y.y c.loop-y.costs c.costs_of_row.result c.plus-costs.result (omega (arith, c.loop-y.auto)) c.loop-y.invariant c.costs_of_row.ensures.tiles c.costs_of_row.ensures.seams c.costs_of_row.ensures.small c.plus-costs.ensures.tiles c.plus-costs.ensures.seams

pub returns : goal.returns
returns c =
    let e : c.loop-y.y ≡ c.args.end = omega (arith, c.loop-y.auto, c.loop-y-test.false, c.requires.rows) in
    subst (λ (n : ℕ). AreCounted c.args.block.now.surface c.args.first n c.loop-y.costs) e c.loop-y.invariant
