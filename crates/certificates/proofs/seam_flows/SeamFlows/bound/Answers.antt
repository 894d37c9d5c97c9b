use Rattle.std.proofs.Common.{◌≡◌, ◌∙◌, ◌+◌, arith, sym, to_z}
use Rattle.std.specs.Int.{w128}
use Rattle.raster_model.proofs.BoxSums.{column_more}
use Rattle.raster_model.proofs.PartLemmas.{grid_none, row_none, grid_next, grid_all}
use Rattle.raster_model.proofs.FlowLemmas.{before-none, before-row, before-next}
use Rattle.certificates.specs.FlowWords.{held_raster, parts_from}
use Rattle.certificates.proofs.PassLemmas.{before_past, part_past}
use Rattle.certificates.proofs.SeamLemmas.{flow_sum_fits, pixels_before}
use Rattle.certificates.proofs.FlowSums.{bound_is}
use Rattle.certificates.proofs.ZeroFlows.{zero_flows_bound}
use Rattle.certificates.proofs.seam_flows.SeamFlows.bound.Goals as goal

pub loop-y-init : goal.loop-y-init
loop-y-init g c =
    let k = c.args.self.now in
    record {
      counted = before-none (held_raster k);
      few = omega arith;
      sum = grid_none k.scene.now.phase.width (parts_from k (g.H.Heights.cycles_at c.args.heights.now));
      small = omega arith;
    }

pub loop-x-init : goal.loop-x-init
loop-x-init g c =
    let k = c.args.self.now in
    let x = c.next_start-x.result in
    let to = c.next_start-x.ensures in
    record {
      within = to.place.1;
      counted = c.loop-y.invariant.counted ∙ sym (before_past (held_raster k) 0 x c.loop-y.y to.passed to.place.0);
      few = omega (arith, c.loop-y.invariant.few);
      sum = part_past k 0 x c.loop-y.y to.passed to.place.0 to.place.1 c.loop-y-test.true (g.H.Heights.cycles_at c.args.heights.now) _ _ (row_none k.scene.now.phase.width c.loop-y.y (parts_from k (g.H.Heights.cycles_at c.args.heights.now)) _ c.loop-y.invariant.sum);
      small = omega (arith, c.loop-y.invariant.small);
    }

pub parts_from-bound-requires : goal.parts_from-bound-requires
parts_from-bound-requires g c = record {
  start = (c.loop-x-test.true, c.loop-y-test.true, c.loop-x.invariant.counted, c.loop-x.invariant.few);
  fit = c.requires.fit;
  known = c.requires.known;
}

pub overflow_add-bound : goal.overflow_add-bound
overflow_add-bound g c =
    (flow_sum_fits (to_z w128 c.loop-x.bound-bits) c.parts_from-bound.result c.loop-x.x c.loop-y.y c.loop-x.invariant.small c.parts_from-bound.ensures.small (pixels_before c.args.self.now.scene.now c.loop-x.x c.loop-y.y c.loop-x-test.true c.loop-y-test.true)).2

pub loop-x-preserved : goal.loop-x-preserved
loop-x-preserved g c =
    let k = c.args.self.now in
    let fit = flow_sum_fits (to_z w128 c.loop-x.bound-bits) c.parts_from-bound.result c.loop-x.x c.loop-y.y c.loop-x.invariant.small c.parts_from-bound.ensures.small (pixels_before k.scene.now c.loop-x.x c.loop-y.y c.loop-x-test.true c.loop-y-test.true) in
    let x = c.next_start-x-in-loop-x.result in
    let to = c.next_start-x-in-loop-x.ensures in
    record {
      within = to.place.1;
      counted = omega (arith, c.loop-x.invariant.counted, c.seams_from-place.ensures.value, before-next (held_raster k) c.loop-x.x c.loop-y.y, before_past (held_raster k) (c.loop-x.x + 1) x c.loop-y.y to.passed to.place.0);
      few = omega (arith, c.loop-x.invariant.few, c.seams_from-place.ensures.few, to.place.0);
      sum = part_past k (c.loop-x.x + 1) x c.loop-y.y to.passed to.place.0 to.place.1 c.loop-y-test.true (g.H.Heights.cycles_at c.args.heights.now) _ _ (fit.0 ∙ column_more (parts_from k (g.H.Heights.cycles_at c.args.heights.now)) c.loop-x.x c.loop-y.y _ _ _ c.loop-x.invariant.sum c.parts_from-bound.ensures.value);
      small = rw fit.0 (omega (arith, fit.1, to.place.0));
    }

pub loop-x-smaller : goal.loop-x-smaller
loop-x-smaller g c = omega (arith, c.next_start-x-in-loop-x.ensures.place.0, c.loop-x-test.true)

pub loop-y-preserved : goal.loop-y-preserved
loop-y-preserved g c =
    let k = c.args.self.now in
    let r = held_raster k in
    let e : c.loop-x.x ≡ r.width = omega (arith, c.loop-x.invariant.within, c.loop-x-test.false) in
    record {
      counted = (rw e at c.loop-x.invariant.counted) ∙ sym (before-row r c.loop-y.y);
      few = omega (arith, c.loop-x.invariant.few);
      sum = grid_next r.width c.loop-x.x c.loop-y.y (parts_from k (g.H.Heights.cycles_at c.args.heights.now)) _ e c.loop-x.invariant.sum;
      small = omega (arith, c.loop-x.invariant.small);
    }

pub returns : goal.returns
returns g c =
    let k = c.args.self.now in
    let r = held_raster k in
    grid_all r.width r.height c.loop-y.y (parts_from k (g.H.Heights.cycles_at c.args.heights.now)) _ (omega arith) c.loop-y.invariant.sum ∙ bound_is k (g.H.Heights.cycles_at c.args.heights.now)

pub returns-then-are_zeros : goal.returns-then-are_zeros
returns-then-are_zeros g c = zero_flows_bound c.args.self.now (c.are_zeros.ensures c.if-are_zeros.true) (g.H.Heights.cycles_at c.args.heights.now)
