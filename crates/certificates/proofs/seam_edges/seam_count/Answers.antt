use Rattle.std.proofs.Common.{◌≡◌, ◌∙◌, ◌+◌, arith, sym}
use Rattle.raster_model.specs.Scene.{raster_of}
use Rattle.raster_model.specs.Flows.{seam_count as seam_count_of}
use Rattle.raster_model.proofs.FlowLemmas.{before-none, before-row, before-next}
use Rattle.certificates.proofs.PassLemmas.{before_past}
use Rattle.certificates.proofs.seam_edges.seam_count.Goals as goal

pub loop-y-init : goal.loop-y-init
loop-y-init c = record { counted = before-none (raster_of c.args.scene.now); few = omega arith }

pub loop-x-init : goal.loop-x-init
loop-x-init c =
    let to = c.next_start-x.ensures in
    record {
      within = to.place.1;
      counted = c.loop-y.invariant.counted ∙ sym (before_past (raster_of c.args.scene.now) 0 c.next_start-x.result c.loop-y.y to.passed to.place.0);
      few = omega (arith, c.loop-y.invariant.few);
    }

pub loop-x-preserved : goal.loop-x-preserved
loop-x-preserved c =
    let r = raster_of c.args.scene.now in
    let to = c.next_start-x-in-loop-x.ensures in
    record {
      within = to.place.1;
      counted = omega (arith, c.loop-x.invariant.counted, c.seams_from-count.ensures.value, before-next r c.loop-x.x c.loop-y.y, before_past r (c.loop-x.x + 1) c.next_start-x-in-loop-x.result c.loop-y.y to.passed to.place.0);
      few = omega (arith, c.loop-x.invariant.few, c.seams_from-count.ensures.few, to.place.0);
    }

pub loop-x-smaller : goal.loop-x-smaller
loop-x-smaller c = omega (arith, c.next_start-x-in-loop-x.ensures.place.0, c.loop-x-test.true)

pub loop-y-preserved : goal.loop-y-preserved
loop-y-preserved c =
    let r = raster_of c.args.scene.now in
    let e : c.loop-x.x ≡ r.width = omega (arith, c.loop-x.invariant.within, c.loop-x-test.false) in
    record { counted = (rw e at c.loop-x.invariant.counted) ∙ sym (before-row r c.loop-y.y); few = omega (arith, c.loop-x.invariant.few) }

pub returns : goal.returns
unfolding seam_count_of
returns c =
    let e : c.loop-y.y ≡ c.args.scene.now.phase.height = omega arith in
    rw e at c.loop-y.invariant.counted
