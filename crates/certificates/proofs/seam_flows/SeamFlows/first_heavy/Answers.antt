use Rattle.std.proofs.Common.{◌≡◌, ◌∙◌, ◌+◌, sym, arith}
use Rattle.raster_model.proofs.FlowLemmas.{before-none, before-row, before-next}
use Rattle.certificates.specs.FlowWords.{held_raster, IsSeamOf, FlowFitsAt, IsSmallAt}
use Rattle.certificates.proofs.EdgeLemmas.{none_before, one_more, row_more, all_before, first_of_all}
use Rattle.certificates.proofs.PassLemmas.{before_past, holds_past}
use Rattle.certificates.proofs.SeamLemmas.{in_raster}
use Rattle.certificates.proofs.ZeroFlows.{zero_flows_fit}
use Rattle.certificates.proofs.seam_flows.SeamFlows.first_heavy.Goals as goal

pub loop-y-init : goal.loop-y-init
loop-y-init c =
    let k = c.args.self.now in
    let r = held_raster k in
    record {
      counted = before-none r;
      few = omega arith;
      fit = none_before (IsSeamOf k) (FlowFitsAt k) 0 r.width 0 r.height (in_raster k);
      small = none_before (IsSeamOf k) (IsSmallAt k) 0 r.width 0 r.height (in_raster k);
    }

pub loop-x-init : goal.loop-x-init
loop-x-init c =
    let k = c.args.self.now in
    let x = c.next_start-x.result in
    let to = c.next_start-x.ensures in
    record {
      within = to.place.1;
      counted = c.loop-y.invariant.counted ∙ sym (before_past (held_raster k) 0 x c.loop-y.y to.passed to.place.0);
      few = omega (arith, c.loop-y.invariant.few);
      fit = holds_past (held_raster k) 0 x c.loop-y.y to.passed to.place.0 (FlowFitsAt k) c.loop-y.invariant.fit;
      small = holds_past (held_raster k) 0 x c.loop-y.y to.passed to.place.0 (IsSmallAt k) c.loop-y.invariant.small;
    }

pub returns-in-Some-clause-found : goal.returns-in-Some-clause-found
returns-in-Some-clause-found c =
    let k = c.args.self.now in
    first_of_all (IsSeamOf k) (FlowFitsAt k) c.loop-x.x c.loop-y.y c.in-Some.edge c.loop-x.invariant.fit c.in-Some.ensures.found

pub loop-x-preserved : goal.loop-x-preserved
loop-x-preserved c =
    let k = c.args.self.now in
    let x = c.next_start-x-in-loop-x.result in
    let to = c.next_start-x-in-loop-x.ensures in
    record {
      within = to.place.1;
      counted = omega (arith, c.loop-x.invariant.counted, c.seams_from-place.ensures.value, before-next (held_raster k) c.loop-x.x c.loop-y.y, before_past (held_raster k) (c.loop-x.x + 1) x c.loop-y.y to.passed to.place.0);
      few = omega (arith, c.loop-x.invariant.few, c.seams_from-place.ensures.few, to.place.0);
      fit = holds_past (held_raster k) (c.loop-x.x + 1) x c.loop-y.y to.passed to.place.0 (FlowFitsAt k) (one_more (IsSeamOf k) (FlowFitsAt k) c.loop-x.x c.loop-y.y c.loop-x.invariant.fit c.in_default.ensures.none.0);
      small = holds_past (held_raster k) (c.loop-x.x + 1) x c.loop-y.y to.passed to.place.0 (IsSmallAt k) (one_more (IsSeamOf k) (IsSmallAt k) c.loop-x.x c.loop-y.y c.loop-x.invariant.small c.in_default.ensures.none.1);
    }

pub loop-x-smaller : goal.loop-x-smaller
loop-x-smaller c = omega (arith, c.next_start-x-in-loop-x.ensures.place.0, c.loop-x-test.true)

pub loop-y-preserved : goal.loop-y-preserved
loop-y-preserved c =
    let k = c.args.self.now in
    let r = held_raster k in
    let e : c.loop-x.x ≡ r.width = omega (arith, c.loop-x.invariant.within, c.loop-x-test.false) in
    record {
      counted = (rw e at c.loop-x.invariant.counted) ∙ sym (before-row r c.loop-y.y);
      few = omega (arith, c.loop-x.invariant.few);
      fit = row_more (IsSeamOf k) (FlowFitsAt k) 0 r.width 0 r.height (in_raster k) c.loop-x.x c.loop-y.y e c.loop-x.invariant.fit;
      small = row_more (IsSeamOf k) (IsSmallAt k) 0 r.width 0 r.height (in_raster k) c.loop-x.x c.loop-y.y e c.loop-x.invariant.small;
    }

pub returns-clause-none : goal.returns-clause-none
returns-clause-none c =
    let k = c.args.self.now in
    let r = held_raster k in
    let e : c.loop-y.y ≡ r.height = omega arith in (
      all_before (IsSeamOf k) (FlowFitsAt k) 0 r.width 0 r.height (in_raster k) c.loop-y.y e c.loop-y.invariant.fit,
      all_before (IsSeamOf k) (IsSmallAt k) 0 r.width 0 r.height (in_raster k) c.loop-y.y e c.loop-y.invariant.small,
    )

pub returns-then-are_zeros-clause-none : goal.returns-then-are_zeros-clause-none
returns-then-are_zeros-clause-none c = zero_flows_fit c.args.self.now (c.are_zeros.ensures c.if-are_zeros.true)
