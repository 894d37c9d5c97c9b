use Rattle.std.proofs.Common.{arith, sym, ◌∙◌}
use Rattle.raster_model.specs.Masks.{open_at}
use Rattle.raster_model.specs.Scene.{raster_of}
use Rattle.raster_model.specs.Raster.{lifted}
use Rattle.raster_model.proofs.PartLemmas.{part_cost-is, grid_none, row_none, row_next, grid_next, grid_all}
use Rattle.raster_model.proofs.plain.cost_of.Goals as goal

pub loop-y-init : goal.loop-y-init
loop-y-init g c = (grid_none _ _, omega arith)

pub loop-x-init : goal.loop-x-init
loop-x-init g c = (row_none _ _ _ _ c.loop-y.invariant.0, omega (arith, c.loop-y.invariant.1))

pub loop-x-preserved : goal.loop-x-preserved
loop-x-preserved g c = (row_next _ _ _ _ _ _ c.loop-x.invariant.0 c.cost_from-cost.ensures.value, omega (arith, c.loop-x.invariant.1, c.cost_from-cost.ensures.small))

pub loop-y-preserved : goal.loop-y-preserved
loop-y-preserved g c = (grid_next _ _ _ _ _ (omega arith) c.loop-x.invariant.0, omega (arith, c.loop-x.invariant.1))

pub returns : goal.returns
returns g c =
    let S = lifted (raster_of c.args.scene.now) (g.H.Heights.cycles_at c.args.heights.now) in
    grid_all _ _ _ _ _ (omega arith) c.loop-y.invariant.0 ∙ sym (part_cost-is (raster_of c.args.scene.now) (open_at c.args.mask.now) c.args.part S)
