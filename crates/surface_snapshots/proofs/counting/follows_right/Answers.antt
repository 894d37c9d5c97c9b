use Rattle.std.proofs.Common.{arith}
use Rattle.raster_model.specs.Raster.{lifted}
use Rattle.raster_model.specs.Scene.{raster_of}
use Rattle.surface_snapshots.proofs.FreeLemmas.{is_false, right_more}
use Rattle.surface_snapshots.proofs.counting.follows_right.Goals as goal

pub loop-x-preserved : goal.loop-x-preserved
loop-x-preserved g c = λ e.
    let r = raster_of c.args.scene.now in
    let S = lifted r (g.H.Heights.cycles_at c.args.heights.now) in
    right_more r S c.args.y c.args.x0 c.loop-x.x c.loop-x.departs c.departure.result (record { sfits = c.departure.type_inv }) e c.departure.ensures.value c.loop-x.invariant

pub returns : goal.returns
returns g c = λ t x l m w. c.loop-x.invariant (is_false c.loop-x.departs t) x l (omega (arith, m, w, c.min-x-end.ensures)) w
